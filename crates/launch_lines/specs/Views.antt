-- Lines of the program as the rows that the definitions speak of, and what it answers.
use Rattle.std.specs.Prelude.{ℕ, ◌-◌, ◌≡◌, ◌≤◌, List, [], ◌∷◌, Option, Some, None, ◌++◌, length, take, drop, map}
use Rattle.std.specs.List.{AllByRecursion}
use Rattle.launch_lines.specs.declared.line.Line.{Line}
use Rattle.launch_lines.specs.declared.fault.Fault.{Fault}
use Rattle.lists.specs.declared.stop.Stop.{Stop}
use Rattle.lists.specs.declared.stop.Stop.TheVariants.{At, Memory}
use Rattle.launch_scalars.specs.declared.fault.LineFault.{LineFault}
use Rattle.launch_lines.specs.Rows.{Row, place_in}

abbrev pub row : List ℕ → Line → Row
row text l = record { number = l.number; column = l.column; content = take (l.end - l.start) (drop l.start text) }

abbrev pub rows : List ℕ → List Line → List Row
rows text ls = map (row text) ls

-- the line lies in the text, with the bytes before it
abbrev pub IsWithin : List ℕ → Line → Type 0
IsWithin text l = (l.column ≤ l.start) × (l.start ≤ l.end) × (l.end ≤ length text)

-- what stands at the end of the bytes
abbrev pub IsEndOf : List ℕ → List ℕ → Type 0
IsEndOf bytes rest = (front : List ℕ) × (bytes ≡ front ++ rest)

abbrev pub AllWithin : List ℕ → List Line → Type 0
AllWithin text ls = AllByRecursion (IsWithin text) ls

-- the lines from one on, if there is one
abbrev pub lines_from : Option Line → List Line → List Line
lines_from None ls = []
lines_from (Some l) ls = l ∷ ls

-- why reading stopped in a row
abbrev pub stop_in : Row → Stop LineFault → Stop Fault
stop_in r (At e) = At (place_in r e)
stop_in r Memory = Memory
