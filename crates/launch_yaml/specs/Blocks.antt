-- Values that stand on rows.
use Rattle.std.specs.Prelude.{ℕ, zero, suc, ◌==◌, ◌&&◌, ◌||◌, not, if◌then◌else◌, nat_le, Bool, true, false, List, [], ◌∷◌, length, drop, codes, Option, Some, None, is_some, Result, Ok, Err}
use Rattle.std.specs.List.{list_any}
use Rattle.launch_scalars.specs.declared.kind.YamlKind.{YamlKind}
use Rattle.launch_scalars.specs.declared.kind.YamlKind.TheVariants as kinds
use Rattle.launch_scalars.specs.Spaces.{is_one_of, begins_with, after_gap}
use Rattle.launch_scalars.specs.Plain.{wrong_beginning}
use Rattle.launch_values.specs.declared.mode.Mode.{Mode}
use Rattle.launch_values.specs.declared.mode.Mode.TheVariants as modes
use Rattle.launch_values.specs.Shape.{Shape, Content, node, null, mapping, sequence, of_list, of_pairs, content_of}
use Rattle.launch_values.specs.Resolution.{scalar_value}
use Rattle.launch_values.specs.Tags.{Tag, named, bytes_in_base64, tag_at}
use Rattle.launch_values.specs.Keys.{same_key}
use Rattle.launch_values.specs.Flow.{value_at}
use Rattle.launch_lines.specs.declared.fault.Fault.{Fault}
use Rattle.lists.specs.Results.{◌>>=◌}
use Rattle.launch_lines.specs.Faults.{unless, first_of}
use Rattle.launch_lines.specs.Rows.{Row, is_dash, begins_key, behind_key, after_key, behind_colon, at_row, place_in, in_row, from}
use Rattle.launch_yaml.specs.Entries.{Entry, map_entries, sequence_entries}

-- ---- tags before values

-- what stands before a value: nothing, a tag with its line and its name, or `!!binary` with its place
pub data Tagging : Type 0 where
  untagged : Tagging
  tagged : ℕ → List ℕ → Tagging
  in_base64 : Fault → Tagging

abbrev pub is_untagged : Tagging → Bool
is_untagged untagged = true
is_untagged other = false

abbrev pub tagging_of : Fault → Tag → Tagging
tagging_of place (named name) = tagged place.line name
tagging_of place bytes_in_base64 = in_base64 place

abbrev pub mode_of : Tagging → Mode
mode_of untagged = modes.Resolved
mode_of (tagged line name) = modes.Verbatim
mode_of (in_base64 place) = modes.Base64

-- a value as a node, where it stands on a line
abbrev pub node_of : Tagging → ℕ → Content → Shape
node_of untagged line value = node line None value
node_of (tagged l name) line value = node l (Some name) value
node_of (in_base64 place) line value = node place.line None value

-- the place of a `!!binary`
abbrev pub binary_place : Tagging → Option Fault
binary_place (in_base64 place) = Some place
binary_place other = None

-- behind `!!binary` stands a scalar, and nothing else
abbrev pub unless_binary : {A : Type 0} → Tagging → Result A Fault → Result A Fault
unless_binary tagging further = unless (binary_place tagging) further

-- nothing, where a value could stand
abbrev pub absent : Tagging → ℕ → Result Shape Fault
absent tagging line = unless_binary tagging (Ok (node_of tagging line null))

-- the place of what begins with these bytes of a row, as a fault of a kind
abbrev pub wrong_in : Row → YamlKind → List ℕ → Fault
wrong_in r kind bytes = place_in r (record { left = length bytes; kind = kind })

-- the tag whose `!` the bytes begin with, and what stands behind it
abbrev pub tagging_at : Row → List ℕ → Result (Tagging × List ℕ) Fault
tagging_at r bytes = in_row r (tag_at false (drop 1 bytes)) >>= λ t. Ok (tagging_of (wrong_in r kinds.Tag bytes) t.0, after_gap t.1)

-- ---- values in one line

-- a row that doesn't go on with what stands before it: the root has ended
abbrev pub kind_of_end : Bool → YamlKind
kind_of_end is_root = if is_root then kinds.End else kinds.Indent

-- what stands behind a value in its line
abbrev pub text_behind : Row → List ℕ → Option Fault
text_behind r [] = None
text_behind r (b ∷ bs) = Some (wrong_in r (if is_some (behind_colon (b ∷ bs)) then kinds.Character else kinds.End) (b ∷ bs))

-- rows behind a value that stands in one line; a deeper one could belong to no value
abbrev pub rows_behind : Bool → Row → List Row → Option Fault
rows_behind is_root r [] = None
rows_behind is_root r (next ∷ rows) = Some (record { line = next.number; column = next.column; kind = kind_of_end (is_root && nat_le next.column r.column) })

-- a scalar or a flow value, behind which nothing more stands
abbrev pub alone : ℕ → Bool → Tagging → Row → List Row → List ℕ → Result Shape Fault
alone depth is_root tagging r rows bytes =
    in_row r (value_at depth r.number (mode_of tagging) bytes) >>= λ v.
    unless (text_behind r (after_gap v.1)) (unless (rows_behind is_root r rows) (Ok (node_of tagging r.number v.0)))

-- ---- a value

-- what reads the map or the sequence that begins with a row, of the root or of another value
abbrev pub Block : Type 0
Block = Bool → Row → List Row → Result Content Fault

abbrev pub begins_block : List ℕ → Bool
begins_block bytes = is_dash bytes || is_some (behind_key bytes)

-- A value from these bytes of a row on, where `below` reads one on the rows behind. A map or a sequence begins with a row,
-- behind a dash too, but not behind a colon or a tag in its line: there the bytes aren't `fresh`.
abbrev pub value_in : Block → ℕ → Bool → (Tagging → Result Shape Fault) → Tagging → Bool → Row → List Row → List ℕ → Result Shape Fault
value_in block depth is_root below tagging fresh r rows [] = below tagging
value_in block depth is_root below tagging fresh r rows (b ∷ bs) =
    if fresh && begins_block (b ∷ bs) then unless_binary tagging (block is_root r rows >>= λ value. Ok (node_of tagging r.number value))
    else if b == 33 then unless_binary tagging (Err (wrong_in r kinds.Tag (b ∷ bs)))
    else if is_one_of (codes "[{") b then unless_binary tagging (alone depth is_root tagging r rows (b ∷ bs))
    else alone depth is_root tagging r rows (b ∷ bs)

-- a tag stands before no key in its line
abbrev pub unless_key : {A : Type 0} → Row → List ℕ → Result A Fault → Result A Fault
unless_key r bytes further = if is_some (behind_key bytes) then Err (wrong_in r kinds.Character bytes) else further

-- the same, where a tag may stand first
abbrev pub tagged_value_in : Block → ℕ → Bool → (Tagging → Result Shape Fault) → Tagging → Bool → Row → List Row → List ℕ → Result Shape Fault
tagged_value_in block depth is_root below tagging fresh r rows bytes =
    if is_untagged tagging && begins_with 33 bytes
    then (tagging_at r bytes >>= λ t. unless_key r t.1 (value_in block depth is_root below t.0 false r rows t.1))
    else value_in block depth is_root below tagging fresh r rows bytes

-- a value on the rows behind the line of this number, if there are any
abbrev pub value_below : Block → ℕ → Bool → ℕ → List Row → Tagging → Result Shape Fault
value_below block depth is_root number [] tagging = absent tagging number
value_below block depth is_root number (r ∷ rows) tagging =
    tagged_value_in block depth is_root (value_below block depth is_root r.number rows) tagging true r rows r.content

-- a value from these bytes of a row on
abbrev pub value_with : Block → ℕ → Bool → Tagging → Bool → Row → List Row → List ℕ → Result Shape Fault
value_with block depth is_root tagging fresh r rows bytes =
    tagged_value_in block depth is_root (value_below block depth is_root r.number rows) tagging fresh r rows bytes

-- ---- sequences

-- a row in a block's place that is no entry of it
abbrev pub no_entry : {A : Type 0} → Bool → Row → Result A Fault
no_entry is_root r = at_row r (kind_of_end is_root)

-- what stands behind the dash of an entry, as a row of its own
abbrev pub behind_dash : Row → Row
behind_dash r = from r (after_gap (drop 1 r.content))

abbrev pub item_of : Block → ℕ → ℕ → Bool → Entry → Result Shape Fault
item_of block depth column is_root e =
    if (e.first.column == column) && is_dash e.first.content
    then value_with block depth false untagged true (behind_dash e.first) e.others (behind_dash e.first).content
    else no_entry is_root e.first

abbrev pub items_of : (Entry → Result Shape Fault) → List Entry → Result (List Shape) Fault
items_of item [] = Ok []
items_of item (e ∷ es) = item e >>= λ x. items_of item es >>= λ xs. Ok (x ∷ xs)

-- ---- maps

-- the key that a row begins with
abbrev pub key_of : Row → Result Content Fault
key_of r = in_row r (scalar_value modes.Resolved false r.content) >>= λ k. Ok k.0

-- what is wrong where a key should begin
abbrev pub wrong_key : List ℕ → YamlKind
wrong_key [] = kinds.Character
wrong_key (b ∷ bs) = wrong_beginning b

-- a key that is none of those that the map has already
abbrev pub new_key : List Content → Row → Content → Result Content Fault
new_key keys r key = if list_any (same_key key) keys then at_row r kinds.DuplicateKey else Ok key

abbrev pub new_key_of : List Content → Row → Result Content Fault
new_key_of keys r = key_of r >>= λ key. new_key keys r key

-- the key of an entry of a map that has some keys already
abbrev pub key_at : ℕ → Bool → List Content → Row → Result Content Fault
key_at column is_root keys r =
    if not (r.column == column) then no_entry is_root r
    else if not (begins_key r.content) then at_row r (wrong_key r.content)
    else if not (is_some (behind_key r.content)) then no_entry is_root r
    else new_key_of keys r

-- the value of the key that an entry begins with
abbrev pub value_of_entry : Block → ℕ → Entry → Result Shape Fault
value_of_entry block depth e = value_with block depth false untagged false e.first e.others (after_key (behind_key e.first.content))

-- an entry of a map that has some keys already
abbrev pub pair_of : Block → ℕ → ℕ → Bool → List Content → Entry → Result (Shape × Shape) Fault
pair_of block depth column is_root keys e =
    key_at column is_root keys e.first >>= λ key.
    value_of_entry block depth e >>= λ v.
    Ok (node e.first.number None key, v)

abbrev pub pairs_of : (List Content → Entry → Result (Shape × Shape) Fault) → List Content → List Entry → Result (List (Shape × Shape)) Fault
pairs_of pair keys [] = Ok []
pairs_of pair keys (e ∷ es) = pair keys e >>= λ p. pairs_of pair (content_of p.0 ∷ keys) es >>= λ ps. Ok (p ∷ ps)

-- ---- depth

-- A map or a sequence too many. A map begins at its first key, of which there may be an earlier fault.
abbrev pub too_deep : Row → Result Content Fault → Result Content Fault
too_deep r (Ok key) = at_row r kinds.Depth
too_deep r (Err e) = Err (first_of e (record { line = r.number; column = r.column; kind = kinds.Depth }))

abbrev pub deepest : Row → Result Content Fault
deepest r = if is_dash r.content then at_row r kinds.Depth else too_deep r (key_of r)

-- the items of the sequence and the pairs of the map that begins with a row
abbrev pub items_at : Block → ℕ → Bool → Row → List Row → Result (List Shape) Fault
items_at inner depth is_root r rows = items_of (item_of inner depth r.column is_root) (sequence_entries r.column (r ∷ rows))

abbrev pub pairs_at : Block → ℕ → Bool → Row → List Row → Result (List (Shape × Shape)) Fault
pairs_at inner depth is_root r rows = pairs_of (pair_of inner depth r.column is_root) [] (map_entries r.column (r ∷ rows))

abbrev pub block_with : Block → ℕ → Block
block_with inner depth is_root r rows =
    if is_dash r.content
    then (items_at inner depth is_root r rows >>= λ items. Ok (sequence (of_list items)))
    else (pairs_at inner depth is_root r rows >>= λ pairs. Ok (mapping (of_pairs pairs)))

-- a map or a sequence, in which so many may stand inside each other, itself included
unfoldable pub block_at : ℕ → Block
block_at zero is_root r rows = deepest r
block_at (suc depth) is_root r rows = block_with (block_at depth) depth is_root r rows

-- the root, which begins with a row
abbrev pub root_at : ℕ → Row → List Row → Result Shape Fault
root_at depth r rows = value_with (block_at depth) depth true untagged true r rows r.content
