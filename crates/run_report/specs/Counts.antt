-- How many calls a history has, and how many of each number.
use Rattle.std.specs.Prelude.{ℕ, ◌==◌, ◌++◌, Bool, true, false, List, [], ◌∷◌, Option, None, Some, Result, Ok, Err, codes, if◌then◌else◌}
use Rattle.std.specs.Fmt.{decimal}
use Rattle.std.specs.List.{count_by, flat_map}
use Rattle.abi_types.specs.CallNumbers.{all_calls, name_of, number_of}
use Rattle.abi_types.specs.Numbers.{number_of_call}
use Rattle.abi_types.specs.declared.call_number.CallNumber.{CallNumber}
use Rattle.run_types.specs.declared.history.Act.{Act}
use Rattle.run_types.specs.declared.history.Act.TheVariants as act
use Rattle.run_types.specs.declared.history.Entry.{Entry}

-- whether the act is a call; that a thread is woken in a call is none
abbrev pub is_call : Act → Bool
is_call (act.Call call answer) = true
is_call _ = false

-- whether a call that has such a number, or one that none of the 49 has, is this one
abbrev pub is_number : CallNumber → Result CallNumber ℕ → Bool
is_number number (Ok other) = number_of other == number_of number
is_number number (Err other) = false

-- whether the act is a call of this number
abbrev pub is_call_of : CallNumber → Act → Bool
is_call_of number (act.Call call answer) = is_number number (number_of_call call)
is_call_of number _ = false

-- how many entries are calls
abbrev pub calls_count : List Entry → ℕ
calls_count history = count_by (λ entry. is_call entry.act) history

-- how many entries are calls of this number
abbrev pub number_count : CallNumber → List Entry → ℕ
number_count number history = count_by (λ entry. is_call_of number entry.act) history

-- a name and how many there are of it, where there are any
abbrev pub count_line : List ℕ → ℕ → List ℕ
count_line name count = if count == 0 then [] else name ++ (codes " " ++ (decimal count ++ 10 ∷ []))

-- the line of a number
abbrev pub number_line : List Entry → CallNumber → List ℕ
number_line history number = count_line (name_of number) (number_count number history)

-- the line of the number at a place, where there is one
abbrev pub place_line : List Entry → Option CallNumber → List ℕ
place_line history None = []
place_line history (Some number) = number_line history number

-- a line for each number of which there are calls, in the order of the numbers
unfoldable pub number_lines : List Entry → List ℕ
number_lines history = flat_map (number_line history) all_calls
