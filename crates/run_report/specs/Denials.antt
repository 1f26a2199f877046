-- The lines of a report on denied calls.
use Rattle.std.specs.Prelude.{ℕ, ◌-◌, false, ◌++◌, List, [], ◌∷◌, codes, length, replicate, map, filter}
use Rattle.std.specs.Fmt.{decimal, digits}
use Rattle.std.specs.List.{flat_map, join_by}
use Rattle.abi_types.specs.declared.descriptor.Denial.{Denial}
use Rattle.abi_types.specs.declared.descriptor.Denial.TheVariants.{Missing, Outside}
use Rattle.abi_base.specs.declared.rights.Rights.{Rights}
use Rattle.abi_base.specs.Rights.{names, has_all}
use Rattle.run_types.specs.declared.history.Entry.{Entry}
use Rattle.denied_calls.specs.DeniedCalls.{denied_calls}
use Rattle.denied_calls.specs.declared.denied_call.DeniedCall.{DeniedCall}
use Rattle.run_report.specs.CallNames.{name_of_number}

-- the names of the rights in the set, in rising bit order
unfoldable pub right_names : ℕ → List (List ℕ)
right_names rights = map (λ row. row.0) (filter (λ row. has_all rights row.1) names)

-- the names with commas between them, or `-` where there is none
abbrev pub listed : List (List ℕ) → List ℕ
listed [] = codes "-"
listed (name ∷ rest) = join_by (λ x. x) (codes ",") (name ∷ rest)

-- a set of rights by its names
unfoldable pub rights_text : ℕ → List ℕ
rights_text rights = listed (right_names rights)

-- a number in lower-case hexadecimal digits, with zeros before them up to eight
abbrev pub eight_digits : ℕ → List ℕ
eight_digits n = replicate (8 - length (digits 16 false n)) 48 ++ digits 16 false n

-- a process in eight digits, a point, and its thread
abbrev pub thread_text : ℕ → ℕ → List ℕ
thread_text pid tid = eight_digits pid ++ (codes "." ++ decimal tid)

-- the rights that a descriptor lacks
abbrev pub missing_text : ℕ → Rights → Rights → List ℕ
missing_text fd base inheriting =
    codes "fd " ++ (decimal fd ++ (codes " base " ++ (rights_text base.0 ++ (codes " inheriting " ++ rights_text inheriting.0))))

-- why a call was denied
abbrev pub denial_text : Denial → List ℕ
denial_text (Missing fd base inheriting) = missing_text fd base inheriting
denial_text (Outside component) = codes "outside " ++ decimal component

-- the line of a denied call
unfoldable pub denial_line : DeniedCall → List ℕ
denial_line call = thread_text call.pid call.tid ++ (codes " " ++ (name_of_number call.number ++ (codes " " ++ (denial_text call.denial ++ 10 ∷ []))))

-- the lines of denied calls in their order, under a line with their number
unfoldable pub listed_denials : List DeniedCall → List ℕ
listed_denials calls = codes "== denials " ++ (decimal (length calls) ++ (10 ∷ flat_map denial_line calls))

-- the lines of the history's denied calls
abbrev pub denials_text : List Entry → List ℕ
denials_text history = listed_denials (denied_calls history)
