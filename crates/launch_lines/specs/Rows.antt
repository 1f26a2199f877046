-- The lines in which something stands, by their columns.
use Rattle.std.specs.Prelude.{ℕ, suc, ◌+◌, ◌-◌, ◌==◌, ◌&&◌, ◌||◌, if◌then◌else◌, nat_eq, Bool, true, false, List, [], ◌∷◌, ◌++◌, length, drop, codes, Option, Some, None, Result, Ok, Err}
use Rattle.std.specs.List.{starts_with}
use Rattle.launch_scalars.specs.declared.kind.YamlKind.{YamlKind}
use Rattle.launch_scalars.specs.declared.fault.LineFault.{LineFault}
use Rattle.launch_scalars.specs.Spaces.{after_gap}
use Rattle.launch_scalars.specs.Plain.{begins_plain, is_space_or_end, is_behind_key, plain_length}
use Rattle.launch_scalars.specs.Quoted.{quoted}
use Rattle.launch_scalars.specs.Scalars.{is_quote}
use Rattle.launch_values.specs.Tags.{name_length}
use Rattle.launch_lines.specs.declared.fault.Fault.{Fault}

-- a line's number, its column, and what stands from there to its end
pub record Row : Type 0 where
  pub number : ℕ
  pub column : ℕ
  pub content : List ℕ

-- Tabs are faults that are found from the lines alone. Here they count as indentation, so that a fault of what stands
-- behind them comes later.
abbrev pub is_indentation : ℕ → Bool
is_indentation b = (b == 32) || (b == 9)

abbrev pub indentation : List ℕ → ℕ
indentation [] = 0
indentation (b ∷ bs) = if is_indentation b then suc (indentation bs) else 0

-- blank lines and lines of a comment are no rows
abbrev pub unless_nothing : ℕ → ℕ → List ℕ → List Row
unless_nothing n column [] = []
unless_nothing n column (b ∷ bs) = if b == 35 then [] else record { number = n; column = column; content = b ∷ bs } ∷ []

abbrev pub row_of : ℕ → List ℕ → List Row
row_of n line = unless_nothing n (indentation line) (drop (indentation line) line)

-- the rows of lines that are numbered from n on
abbrev pub rows_from : ℕ → List (List ℕ) → List Row
rows_from n [] = []
rows_from n (l ∷ ls) = row_of n l ++ rows_from (suc n) ls

-- ---- what a row begins with

-- an item of a sequence
abbrev pub is_dash : List ℕ → Bool
is_dash [] = false
is_dash (b ∷ bs) = (b == 45) && is_space_or_end bs

-- what stands behind a colon that ends a key
abbrev pub behind_colon : List ℕ → Option (List ℕ)
behind_colon [] = None
behind_colon (b ∷ bs) = if (b == 58) && is_behind_key false bs then Some bs else None

abbrev pub behind_quoted : Option (List ℕ) → Option (List ℕ)
behind_quoted None = None
behind_quoted (Some rest) = behind_colon (after_gap rest)

-- a key may begin with this byte, where those follow
abbrev pub begins_key : List ℕ → Bool
begins_key [] = false
begins_key (b ∷ bs) = is_quote b || begins_plain false b bs

-- what stands behind the key and its colon; nothing, where the row begins with no key
unfoldable pub behind_key : List ℕ → Option (List ℕ)
behind_key [] = None
behind_key (b ∷ bs) =
    if is_quote b then behind_quoted (quoted b bs).rest
    else if begins_plain false b bs then behind_colon (drop (plain_length false (b ∷ bs)) (b ∷ bs))
    else None

-- what stands in the row behind the key and its colon; nothing, where there is no key
abbrev pub after_key : Option (List ℕ) → List ℕ
after_key None = []
after_key (Some rest) = after_gap rest

-- nothing stands here but perhaps a tag
abbrev pub is_open : List ℕ → Bool
is_open [] = true
is_open (b ∷ bs) = (b == 33) && (length (after_gap (drop (name_length false bs) bs)) == 0)

-- the row is a key whose value stands on following rows, if anywhere
abbrev pub awaits_value : Option (List ℕ) → Bool
awaits_value None = false
awaits_value (Some rest) = is_open (after_gap rest)

-- ---- places

-- a fault where a row begins
abbrev pub at_row : {A : Type 0} → Row → YamlKind → Result A Fault
at_row r kind = Err (record { line = r.number; column = r.column; kind = kind })

-- a fault where so many bytes of a row are left
abbrev pub place_in : Row → LineFault → Fault
place_in r e = record { line = r.number; column = r.column + (length r.content - e.left); kind = e.kind }

-- what was read in a row
abbrev pub in_row : {A : Type 0} → Row → Result A LineFault → Result A Fault
in_row r (Ok x) = Ok x
in_row r (Err e) = Err (place_in r e)

-- ---- rows of their own

-- the rest of a row, as a row that begins where it does
abbrev pub from : Row → List ℕ → Row
from r rest = record { number = r.number; column = r.column + (length r.content - length rest); content = rest }

-- nothing but this text stands in the line, a comment aside
abbrev pub is_alone : List ℕ → Row → Bool
is_alone text r =
    (r.column == 0) && starts_with nat_eq r.content text && (length (after_gap (drop (length text) r.content)) == 0)

abbrev pub is_start : Row → Bool
is_start = is_alone (codes "---")

abbrev pub is_stop : Row → Bool
is_stop = is_alone (codes "...")

-- the bytes begin with this text, and behind it stands a space or nothing
abbrev pub is_before_space : List ℕ → List ℕ → Bool
is_before_space text bytes = starts_with nat_eq bytes text && is_space_or_end (drop (length text) bytes)

-- `---` or `...` at column 0, with or without text behind it
abbrev pub is_marker : Row → Bool
is_marker r = (r.column == 0) && (is_before_space (codes "---") r.content || is_before_space (codes "...") r.content)

-- a directive that says what `!` stands for
abbrev pub is_directive : Row → Bool
is_directive = is_alone (codes "%TAG ! tag:nuxi.nl,2015:cloudabi/")
