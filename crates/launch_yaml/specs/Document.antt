-- Documents.
use Rattle.std.specs.Prelude.{ℕ, ◌&&◌, not, if◌then◌else◌, nat_le, Bool, List, [], ◌∷◌, Option, Some, None, Result, Ok}
use Rattle.std.specs.List.{take_while}
use Rattle.launch_scalars.specs.declared.kind.YamlKind.TheVariants as kinds
use Rattle.launch_values.specs.Shape.{Shape, node, null}
use Rattle.launch_lines.specs.declared.fault.Fault.{Fault}
use Rattle.lists.specs.Results.{◌>>=◌}
use Rattle.launch_lines.specs.Faults.{unless, beside}
use Rattle.launch_lines.specs.Lines.{lines, plain_fault}
use Rattle.launch_lines.specs.Rows.{Row, rows_from, at_row, is_start, is_stop, is_marker, is_directive}
use Rattle.launch_yaml.specs.Entries.{after_while}
use Rattle.launch_yaml.specs.Blocks.{root_at}

-- so many maps and sequences may stand inside each other
abbrev pub greatest_depth : ℕ
greatest_depth = 64

-- behind a directive stands `---`
abbrev pub after_directive : Row → List Row → Result (List Row) Fault
after_directive directive [] = at_row directive kinds.Character
after_directive directive (r ∷ rows) = if is_start r then Ok rows else at_row directive kinds.Character

-- the rows behind a directive and a `---`; no value stands in the line of a marker
abbrev pub after_head : List Row → Result (List Row) Fault
after_head [] = Ok []
after_head (r ∷ rows) =
    if is_directive r then after_directive r rows
    else if is_start r then Ok rows
    else if is_marker r && not (is_stop r) then at_row r kinds.Character
    else Ok (r ∷ rows)

abbrev pub first_column : List Row → ℕ
first_column [] = 0
first_column (r ∷ rows) = r.column

-- a row of the document whose first row stands at the column: no marker, and none left of it
abbrev pub is_inside : ℕ → Row → Bool
is_inside column r = not (is_marker r) && nat_le column r.column

abbrev pub root_of : List Row → Result Shape Fault
root_of [] = Ok (node 1 None null)
root_of (r ∷ rows) = root_at greatest_depth r rows

-- the first of the rows stands behind the document
abbrev pub end_at : List Row → Option Fault
end_at [] = None
end_at (r ∷ rows) = Some (record { line = r.number; column = r.column; kind = kinds.End })

-- behind a document a `...` may stand, and nothing else
abbrev pub after_document : List Row → Option Fault
after_document [] = None
after_document (r ∷ rows) = if is_stop r then end_at rows else end_at (r ∷ rows)

-- the document whose head was read
abbrev pub body_of : List Row → Result Shape Fault
body_of rows =
    root_of (take_while (is_inside (first_column rows)) rows) >>= λ x.
    unless (after_document (after_while (is_inside (first_column rows)) rows)) (Ok x)

abbrev pub document_of : List Row → Result Shape Fault
document_of rows = after_head rows >>= body_of

-- the document that lines are, or their first fault
abbrev pub document_in : List (List ℕ) → Result Shape Fault
document_in ls = beside (plain_fault ls) (document_of (rows_from 1 ls))

-- the document that a text is, or its first fault
unfoldable pub parse_at : List ℕ → Result Shape Fault
parse_at text = document_in (lines text)
