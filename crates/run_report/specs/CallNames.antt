-- The names of calls.
use Rattle.std.specs.Prelude.{ℕ, List, Result, Ok, Err}
use Rattle.std.specs.Fmt.{decimal}
use Rattle.abi_types.specs.CallNumbers.{name_of}
use Rattle.abi_types.specs.Numbers.{number_of_call}
use Rattle.abi_types.specs.declared.call.Call.{Call}
use Rattle.abi_types.specs.declared.call_number.CallNumber.{CallNumber}

-- the name of a call by its number; of a number that no call has, the number in decimal
abbrev pub name_of_number : Result CallNumber ℕ → List ℕ
name_of_number (Ok number) = name_of number
name_of_number (Err number) = decimal number

-- the name of a call
abbrev pub call_name : Call → List ℕ
call_name call = name_of_number (number_of_call call)
