-- The entries of a block: a row at its column, or left of it, with the rows that belong to it.
use Rattle.std.specs.Prelude.{ℕ, ◌==◌, ◌&&◌, ◌||◌, if◌then◌else◌, nat_lt, Bool, false, List, [], ◌∷◌, drop}
use Rattle.std.specs.List.{take_while, prefix_len}
use Rattle.launch_lines.specs.Rows.{Row, is_dash, is_open, awaits_value, behind_key}

-- the rows behind the front of rows that pass a test
abbrev pub after_while : (Row → Bool) → List Row → List Row
after_while test rows = drop (prefix_len test rows) rows

pub record Entry : Type 0 where
  pub first : Row
  pub others : List Row

abbrev pub is_deeper : ℕ → Row → Bool
is_deeper column r = nat_lt column r.column

abbrev pub is_item_at : ℕ → Row → Bool
is_item_at column r = (r.column == column) && is_dash r.content

-- an item stands at the column, perhaps behind deeper rows that have only a tag
abbrev pub begins_with_item_at : ℕ → List Row → Bool
begins_with_item_at column [] = false
begins_with_item_at column (r ∷ rs) = is_item_at column r || (is_deeper column r && is_open r.content && begins_with_item_at column rs)

-- whether a row belongs to an entry: a deeper one does, and where the entry has items at its column, an item there does
abbrev pub belongs_there : ℕ → Bool → Row → Bool
belongs_there column items r = is_deeper column r || (items && is_item_at column r)

-- Whether rows belong to an entry, where these follow its first row: the deeper ones, and where the entry is a key that
-- awaits its value and a sequence follows at its column, the items there.
abbrev pub belongs : ℕ → Bool → List Row → Row → Bool
belongs column awaits rows r = belongs_there column (awaits && begins_with_item_at column rows) r

-- the entries of rows, the first of which may belong to one before them
abbrev pub entries_after : ℕ → (Row → Bool) → (Row → Bool) → List Row → List Entry
entries_after column awaits before [] = []
entries_after column awaits before (r ∷ rs) =
    if before r then entries_after column awaits before rs
    else record { first = r; others = take_while (belongs column (awaits r) rs) rs }
    ∷ entries_after column awaits (belongs column (awaits r) rs) rs

abbrev pub never : Row → Bool
never r = false

abbrev pub is_key_awaiting : Row → Bool
is_key_awaiting r = awaits_value (behind_key r.content)

-- the entries of a map and of a sequence at a column
unfoldable pub map_entries : ℕ → List Row → List Entry
map_entries column rows = entries_after column is_key_awaiting never rows

unfoldable pub sequence_entries : ℕ → List Row → List Entry
sequence_entries column rows = entries_after column never never rows
