-- Documents and faults whose lines have other numbers.
use Rattle.std.specs.Prelude.{ℕ, suc, if◌then◌else◌, nat_le, Result, Ok, Err}
use Rattle.launch_values.specs.Shape.{Shape, Content, Shapes, Pairs, node, null, boolean, integer, text, binary, mapping, sequence, no_items, item, no_pairs, pair}
use Rattle.launch_lines.specs.declared.fault.Fault.{Fault}
use Rattle.launch_lines.specs.Rows.{Row}

-- a node, with f of the number of each line
abbrev mutual
  pub renumber : (ℕ → ℕ) → Shape → Shape
  renumber f (node line tag value) = node (f line) tag (renumber_value f value)

  pub renumber_value : (ℕ → ℕ) → Content → Content
  renumber_value f null = null
  renumber_value f (boolean b) = boolean b
  renumber_value f (integer i) = integer i
  renumber_value f (text bytes) = text bytes
  renumber_value f (binary bytes) = binary bytes
  renumber_value f (mapping ps) = mapping (renumber_pairs f ps)
  renumber_value f (sequence xs) = sequence (renumber_items f xs)

  pub renumber_items : (ℕ → ℕ) → Shapes → Shapes
  renumber_items f no_items = no_items
  renumber_items f (item x xs) = item (renumber f x) (renumber_items f xs)

  pub renumber_pairs : (ℕ → ℕ) → Pairs → Pairs
  renumber_pairs f no_pairs = no_pairs
  renumber_pairs f (pair k v ps) = pair (renumber f k) (renumber f v) (renumber_pairs f ps)

abbrev pub renumber_fault : (ℕ → ℕ) → Fault → Fault
renumber_fault f e = record { line = f e.line; column = e.column; kind = e.kind }

abbrev pub renumbered : (ℕ → ℕ) → Result Shape Fault → Result Shape Fault
renumbered f (Ok x) = Ok (renumber f x)
renumbered f (Err e) = Err (renumber_fault f e)

-- the number of a line, where one more stands behind the first so many
abbrev pub one_more : ℕ → ℕ → ℕ
one_more count number = if nat_le number count then number else suc number

-- a row, with f of its number
abbrev pub renumber_row : (ℕ → ℕ) → Row → Row
renumber_row f r = record { number = f r.number; column = r.column; content = r.content }
