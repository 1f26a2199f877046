-- What of a text changes nothing of the document that it is.
use Rattle.std.specs.Prelude.{◌≡◌, ◌≢◌, ◌≤◌, ◌⊎◌, ℕ, ◌==◌, if◌then◌else◌, true, false, List, [], ◌∷◌, ◌++◌, length, map, Some, None, Ok, Err}
use Rattle.std.specs.List.{AllByRecursion}
use Rattle.launch_scalars.specs.Spaces.{after_gap}
use Rattle.launch_scalars.specs.declared.kind.YamlKind.TheVariants as kinds
use Rattle.launch_values.specs.Shape.{Shape, node}
use Rattle.launch_values.specs.Tags.{named, bytes_in_base64, tag_at}
use Rattle.lists.specs.Results.{◌>>=◌}
use Rattle.launch_lines.specs.declared.fault.Fault.{Fault}
use Rattle.launch_lines.specs.Faults.{comes_before}
use Rattle.launch_lines.specs.Lines.{without_mark, lines, plain_fault}
use Rattle.launch_lines.specs.Rows.{Row, rows_from, row_of, is_marker, is_directive}
use Rattle.launch_yaml.specs.Blocks.{begins_block, wrong_in}
use Rattle.launch_yaml.specs.Document.{body_of, document_in, parse_at}
use Rattle.launch_yaml.specs.Renumbering.{renumbered, one_more}

-- ---- marks and the ends of lines

-- U+FEFF before a text that doesn't begin with it
abbrev pub MarkChangesNothing : Type 0
MarkChangesNothing = (text : List ℕ) → without_mark text ≡ text → parse_at (0xef ∷ 0xbb ∷ 0xbf ∷ text) ≡ parse_at text

-- a carriage return before each line feed
abbrev pub with_returns : List ℕ → List ℕ
with_returns [] = []
with_returns (b ∷ bs) = if b == 10 then 13 ∷ 10 ∷ with_returns bs else b ∷ with_returns bs

abbrev pub HasNoReturn : List ℕ → Type 0
HasNoReturn text = AllByRecursion (λ b. b ≢ 13) text

abbrev pub ReturnsChangeNothing : Type 0
ReturnsChangeNothing = (text : List ℕ) → HasNoReturn text → parse_at (with_returns text) ≡ parse_at text

-- ---- faults of lines

-- A text with a character that may stand in no text, or with a tab in indentation, is no document. Its fault is the first of
-- those, or one that comes before it.
abbrev pub LinesAreReported : Type 0
LinesAreReported =
    (text : List ℕ) (f : Fault) → plain_fault (lines text) ≡ Some f
    → (g : Fault) × (parse_at text ≡ Err g) × ((g ≡ f) ⊎ (comes_before g f ≡ true))

-- ---- lines in which nothing stands

-- what stands in a row, and where in its line
abbrev pub place_of : Row → ℕ × List ℕ
place_of r = (r.column, r.content)

-- a line that is blank, or has only a comment, among others: the rows stay, with other numbers
abbrev pub EmptyLinesAreNoRows : Type 0
EmptyLinesAreNoRows =
    (front back : List (List ℕ)) (line : List ℕ) → row_of 1 line ≡ []
    → map place_of (rows_from 1 (front ++ line ∷ back)) ≡ map place_of (rows_from 1 (front ++ back))

-- Such a line behind other lines changes nothing of the document that they are, or of their fault, but the numbers of the lines
-- behind it.
abbrev pub EmptyLinesChangeNumbers : Type 0
EmptyLinesChangeNumbers =
    (front back : List (List ℕ)) (line : List ℕ) → 1 ≤ length front → row_of 1 line ≡ [] → plain_fault (line ∷ []) ≡ None
    → document_in (front ++ line ∷ back) ≡ renumbered (one_more (length front)) (document_in (front ++ back))

-- ---- a tag in a line of its own

-- nothing but a tag of this name stands in the row
abbrev pub IsTagOf : List ℕ → Row → Type 0
IsTagOf name r =
    (behind rest : List ℕ) × (r.content ≡ 33 ∷ behind) × (tag_at false behind ≡ Ok (named name, rest)) × (after_gap rest ≡ [])

abbrev pub with_tag : ℕ → List ℕ → Shape → Shape
with_tag line name (node l tag value) = node line (Some name) value

-- Before a map or a sequence that is the root, a row with nothing but a tag puts the tag on it, and changes nothing else: what
-- may stand behind the first row of the map or the sequence, and which fault is reported for it, stays.
abbrev pub TagRowChangesTheTag : Type 0
TagRowChangesTheTag =
    (name : List ℕ) (t r : Row) (rows : List Row) → IsTagOf name t → t.column ≤ r.column → begins_block r.content ≡ true → is_marker r ≡ false
    → body_of (t ∷ r ∷ rows) ≡ (body_of (r ∷ rows) >>= λ x. Ok (with_tag t.number name x))

-- ---- lines behind a fault

-- what stands in the row ends with `!!binary` and perhaps a comment, and a fault of the kind Tag is reported there
abbrev pub EndsWithBinary : Row → Fault → Type 0
EndsWithBinary r e =
    (front behind rest : List ℕ) × (r.content ≡ front ++ 33 ∷ behind) × (tag_at false behind ≡ Ok (bytes_in_base64, rest)) × (after_gap rest ≡ [])
    × (e ≡ wrong_in r kinds.Tag (33 ∷ behind))

-- the fault is that of a `!!binary` in the last row, behind which its scalar is missing
abbrev pub LacksScalar : List Row → Fault → Type 0
LacksScalar rows e = (front : List Row) × (last : Row) × (rows ≡ front ++ last ∷ []) × EndsWithBinary last e

-- the fault is that of a directive, the only row, behind which `---` is missing
abbrev pub LacksStart : List Row → Fault → Type 0
LacksStart rows e = (r : Row) × (rows ≡ r ∷ []) × (is_directive r ≡ true) × (e ≡ record { line = r.number; column = r.column; kind = kinds.Character })

abbrev pub EndsWithReturn : List ℕ → Type 0
EndsWithReturn text = (front : List ℕ) × (text ≡ front ++ 13 ∷ [])

-- A line feed behind a text at fault, and whatever stands behind that, leave its fault, unless it is for what is missing. A
-- carriage return at the text's end would go, since a line feed follows.
abbrev pub FaultsStay : Type 0
FaultsStay =
    (text more : List ℕ) (e : Fault) → parse_at text ≡ Err e
    → (EndsWithReturn text → ⊥) → (LacksScalar (rows_from 1 (lines text)) e → ⊥) → (LacksStart (rows_from 1 (lines text)) e → ⊥)
    → parse_at (text ++ 10 ∷ more) ≡ Err e
