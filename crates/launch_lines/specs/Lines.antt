-- The lines of a text, and the faults that are found from the lines alone.
use Rattle.std.specs.Prelude.{ℕ, suc, ◌==◌, not, Bool, if◌then◌else◌, nat_eq, List, [], ◌∷◌, drop, Option, Some, None, option_map}
use Rattle.std.specs.List.{starts_with}
use Rattle.launch_scalars.specs.declared.kind.YamlKind.{YamlKind}
use Rattle.launch_scalars.specs.declared.kind.YamlKind.TheVariants as kinds
use Rattle.launch_scalars.specs.Characters.{bad_at}
use Rattle.launch_lines.specs.declared.fault.Fault.{Fault}
use Rattle.launch_lines.specs.Faults.{first_fault}

-- the text without U+FEFF at its front
abbrev pub without_mark : List ℕ → List ℕ
without_mark text = if starts_with nat_eq text (0xef ∷ 0xbb ∷ 0xbf ∷ []) then drop 3 text else text

abbrev pub onto_first : ℕ → List (List ℕ) → List (List ℕ)
onto_first b [] = (b ∷ []) ∷ []
onto_first b (piece ∷ pieces) = (b ∷ piece) ∷ pieces

-- what stands between line feeds
abbrev pub pieces : List ℕ → List (List ℕ)
pieces [] = [] ∷ []
pieces (b ∷ bs) = if b == 10 then [] ∷ pieces bs else onto_first b (pieces bs)

-- without the carriage return at the end
abbrev pub without_return : List ℕ → List ℕ
without_return [] = []
without_return (b ∷ []) = if b == 13 then [] else b ∷ []
without_return (b ∷ c ∷ bs) = b ∷ without_return (c ∷ bs)

-- carriage returns go where a line feed follows, so not in the last piece
abbrev pub without_returns : List (List ℕ) → List (List ℕ)
without_returns [] = []
without_returns (piece ∷ []) = piece ∷ []
without_returns (piece ∷ next ∷ pieces) = without_return piece ∷ without_returns (next ∷ pieces)

-- the lines of a text that has no mark at its front
abbrev pub lines_of : List ℕ → List (List ℕ)
lines_of text = without_returns (pieces text)

unfoldable pub lines : List ℕ → List (List ℕ)
lines text = lines_of (without_mark text)

abbrev pub is_no_feed : ℕ → Bool
is_no_feed b = not (b == 10)

-- the lines behind a line feed; none, where there is no line feed
abbrev pub lines_behind : Option (List ℕ) → List (List ℕ)
lines_behind None = []
lines_behind (Some text) = lines_of text

-- how many bytes stand before the first tab of a line's indentation
abbrev pub tab_at : List ℕ → Option ℕ
tab_at [] = None
tab_at (b ∷ bs) = if b == 32 then option_map suc (tab_at bs) else if b == 9 then Some 0 else None

-- where something was found in a line, and else further on
abbrev pub or_further : ℕ → YamlKind → Option Fault → Option ℕ → Option Fault
or_further n kind further None = further
or_further n kind further (Some column) = Some (record { line = n; column = column; kind = kind })

-- the first of the lines in which something is found, where it is found; the lines are numbered from n on
abbrev pub first_line : (List ℕ → Option ℕ) → YamlKind → ℕ → List (List ℕ) → Option Fault
first_line find kind n [] = None
first_line find kind n (l ∷ ls) = or_further n kind (first_line find kind (suc n) ls) (find l)

-- the same as below in one line
abbrev pub plain_fault_in : ℕ → List ℕ → Option Fault
plain_fault_in n l = first_fault (or_further n kinds.Character None (bad_at l)) (or_further n kinds.Tab None (tab_at l))

-- the first byte that may not be in a text, or the first tab in indentation, in lines that are numbered from n on
abbrev pub plain_faults_from : ℕ → List (List ℕ) → Option Fault
plain_faults_from n ls = first_fault (first_line bad_at kinds.Character n ls) (first_line tab_at kinds.Tab n ls)

unfoldable pub plain_fault : List (List ℕ) → Option Fault
plain_fault ls = plain_faults_from 1 ls
