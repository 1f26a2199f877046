-- What is read from rows can be encoded, but for the names of its tags on rows.
use Rattle.std.proofs.Common.{◌≡◌, ℕ, zero, suc, ◌==◌, ◌&&◌, not, Bool, true, false, if◌then◌else◌, List, [], ◌∷◌, codes, drop, Option, Some, None, is_some, Result, Ok, Err, refl}
use Rattle.std.specs.Prelude.{IfOk}
use Rattle.std.specs.List.{list_any}
use Rattle.lists.specs.Results.{◌>>=◌}
use Rattle.lists.proofs.Steps.{on_both, on_bind}
use Rattle.launch_scalars.specs.declared.kind.YamlKind.TheVariants as kinds
use Rattle.launch_scalars.specs.declared.fault.LineFault.{LineFault}
use Rattle.launch_scalars.specs.Spaces.{is_one_of, begins_with, after_gap}
use Rattle.launch_values.specs.declared.mode.Mode.TheVariants as modes
use Rattle.launch_values.specs.Flow.{value_at}
use Rattle.launch_values.specs.KeySets.{IsScalarKey}
use Rattle.launch_values.specs.Keys.{same_key}
use Rattle.launch_values.specs.Resolution.{scalar_value}
use Rattle.launch_values.specs.Shape.{Shape, Content, node, null, mapping, sequence, of_list, of_pairs, content_of}
use Rattle.launch_values.specs.Tags.{Tag, named, bytes_in_base64, tag_at}
use Rattle.launch_lines.specs.declared.fault.Fault.{Fault}
use Rattle.launch_lines.specs.Faults.{unless}
use Rattle.launch_lines.specs.Rows.{Row, is_dash, begins_key, behind_key, after_key, at_row, in_row}
use Rattle.launch_yaml.specs.Entries.{Entry, map_entries, sequence_entries}
use Rattle.launch_yaml.specs.Blocks.{Tagging, untagged, tagged, in_base64, is_untagged, tagging_of, mode_of, node_of, binary_place, unless_binary, absent, wrong_in, tagging_at, text_behind, rows_behind, alone, Block, begins_block, value_in, unless_key, tagged_value_in, value_below, value_with, no_entry, behind_dash, item_of, items_of, key_of, wrong_key, new_key, new_key_of, key_at, value_of_entry, pair_of, pairs_of, too_deep, items_at, pairs_at, block_at}
use Rattle.launch_laws.specs.Printed.{IsTagName, IsEncodable, AreEncodableItems}
use Rattle.launch_laws.proofs.ReadNames.{IsReadTag, tag_is_read}
use Rattle.launch_laws.proofs.ReadKeys.{IsRead, any_mode, null_is_read, scalar_is_key, ArePairsRead, IsPairRead, no_pairs_read, more_pairs_read, on_test}
use Rattle.launch_laws.proofs.ReadFlow.{ValueRead, line_is_read}

-- ---- results

pub on_unless : {A : Type 0} (P : A → Type 0) (e : Option Fault) (r : Result A Fault) → IfOk r P → IfOk (unless e r) P
on_unless P None r h = h
on_unless P (Some e) r h = tt

on_row : {A : Type 0} (P : A → Type 0) (r : Row) (read : Result A LineFault) → IfOk read P → IfOk (in_row r read) P
on_row P r (Ok x) h = h
on_row P r (Err e) h = tt

-- ---- tags

abbrev pub NodeRead : Shape → Type 0
NodeRead x = IsEncodable false x

-- what was read before a value
abbrev pub IsTaggingRead : Tagging → Type 0
IsTaggingRead untagged = Unit {0}
IsTaggingRead (tagged line name) = IsTagName false name
IsTaggingRead (in_base64 place) = Unit {0}

of_tagging : (t : Tagging) (line : ℕ) (value : Content) → IsTaggingRead t → IsRead (mode_of t) value → NodeRead (node_of t line value)
of_tagging untagged line value is h = (tt, h.1)
of_tagging (tagged l name) line value is h = ((is, h.0), h.1)
of_tagging (in_base64 place) line value is h = (tt, h.1)

tagging_is : (place : Fault) (tag : Tag) → IsReadTag tag → IsTaggingRead (tagging_of place tag)
tagging_is place (named name) h = h
tagging_is place bytes_in_base64 h = tt

abbrev TaggingRead : Tagging × List ℕ → Type 0
TaggingRead u = IsTaggingRead u.0

tagging_is_read : (r : Row) (bytes : List ℕ) → IfOk (tagging_at r bytes) TaggingRead
tagging_is_read r bytes =
    on_bind (λ (t : Tag × List ℕ). IsReadTag t.0) TaggingRead (in_row r (tag_at false (drop 1 bytes))) (λ t. Ok (tagging_of (wrong_in r kinds.Tag bytes) t.0, after_gap t.1))
    (on_row (λ (t : Tag × List ℕ). IsReadTag t.0) r (tag_at false (drop 1 bytes)) (tag_is_read false (drop 1 bytes))) (λ t h. tagging_is (wrong_in r kinds.Tag bytes) t.0 h)

binary_read : (t : Tagging) (r : Result Shape Fault) → IfOk r NodeRead → IfOk (unless_binary t r) NodeRead
binary_read t r h = on_unless NodeRead (binary_place t) r h

absent_read : (t : Tagging) (line : ℕ) → IsTaggingRead t → IfOk (absent t line) NodeRead
absent_read t line is = binary_read t (Ok (node_of t line null)) (of_tagging t line null is (null_is_read (mode_of t)))

-- ---- values in one line

alone_read : (depth : ℕ) (is_root : Bool) (t : Tagging) (r : Row) (rows : List Row) (bytes : List ℕ) → IsTaggingRead t → IfOk (alone depth is_root t r rows bytes) NodeRead
alone_read depth is_root t r rows bytes is =
    let behind = rows_behind is_root r rows in
    let value = value_at depth r.number (mode_of t) bytes in
    let further = λ (v : Content × List ℕ). unless (text_behind r (after_gap v.1)) (unless behind (Ok (node_of t r.number v.0))) in
    on_bind (ValueRead (mode_of t)) NodeRead (in_row r value) further (on_row (ValueRead (mode_of t)) r value (line_is_read depth r.number (mode_of t) bytes))
    (λ v h. on_unless NodeRead (text_behind r (after_gap v.1)) _ (on_unless NodeRead behind (Ok (node_of t r.number v.0)) (of_tagging t r.number v.0 is h)))

-- ---- values on rows

-- a map or a sequence that is read
abbrev CollectionRead : Content → Type 0
CollectionRead value = IsRead modes.Verbatim value

abbrev ReadsBlocks : Block → Type 0
ReadsBlocks block = (is_root : Bool) (r : Row) (rows : List Row) → IfOk (block is_root r rows) CollectionRead

in_collection : (block : Block) → ReadsBlocks block → (is_root : Bool) (r : Row) (rows : List Row) (t : Tagging) → IsTaggingRead t
    → IfOk (block is_root r rows >>= λ value. Ok (node_of t r.number value)) NodeRead
in_collection block h is_root r rows t is =
    on_bind CollectionRead NodeRead (block is_root r rows) (λ value. Ok (node_of t r.number value)) (h is_root r rows) (λ value read. of_tagging t r.number value is (any_mode (mode_of t) value read))

-- what reads a value on the rows behind
abbrev ReadsBelow : (Tagging → Result Shape Fault) → Type 0
ReadsBelow below = (t : Tagging) → IsTaggingRead t → IfOk (below t) NodeRead

value_in_read : (depth : ℕ) (block : Block) → ReadsBlocks block → (is_root : Bool) (below : Tagging → Result Shape Fault) → ReadsBelow below
    → (t : Tagging) → IsTaggingRead t → (fresh : Bool) (r : Row) (rows : List Row) (bytes : List ℕ) → IfOk (value_in block depth is_root below t fresh r rows bytes) NodeRead
value_in_read depth block h is_root below k t is fresh r rows [] = k t is
value_in_read depth block h is_root below k t is fresh r rows (b ∷ bs) =
    let a_line = alone depth is_root t r rows (b ∷ bs) in
    let a_tag : Result Shape Fault = unless_binary t (Err (wrong_in r kinds.Tag (b ∷ bs))) in
    let read = alone_read depth is_root t r rows (b ∷ bs) is in
    on_both NodeRead (fresh && begins_block (b ∷ bs)) (unless_binary t (block is_root r rows >>= λ value. Ok (node_of t r.number value)))
    (if b == 33 then a_tag else if is_one_of (codes "[{") b then unless_binary t a_line else a_line)
    (binary_read t _ (in_collection block h is_root r rows t is))
    (on_both NodeRead (b == 33) a_tag (if is_one_of (codes "[{") b then unless_binary t a_line else a_line)
    (binary_read t (Err (wrong_in r kinds.Tag (b ∷ bs))) tt)
    (on_both NodeRead (is_one_of (codes "[{") b) (unless_binary t a_line) a_line (binary_read t a_line read) read))

tagged_read : (depth : ℕ) (block : Block) → ReadsBlocks block → (is_root : Bool) (below : Tagging → Result Shape Fault) → ReadsBelow below
    → (t : Tagging) → IsTaggingRead t → (fresh : Bool) (r : Row) (rows : List Row) (bytes : List ℕ) → IfOk (tagged_value_in block depth is_root below t fresh r rows bytes) NodeRead
tagged_read depth block h is_root below k t is fresh r rows bytes =
    let behind = λ (u : Tagging × List ℕ). value_in block depth is_root below u.0 false r rows u.1 in
    let further = λ (u : Tagging × List ℕ). unless_key r u.1 (behind u) in
    on_both NodeRead (is_untagged t && begins_with 33 bytes) (tagging_at r bytes >>= further) (value_in block depth is_root below t fresh r rows bytes)
    (on_bind TaggingRead NodeRead (tagging_at r bytes) further (tagging_is_read r bytes) (λ u read.
    on_both NodeRead (is_some (behind_key u.1)) (Err (wrong_in r kinds.Character u.1)) (behind u) tt (value_in_read depth block h is_root below k u.0 read false r rows u.1)))
    (value_in_read depth block h is_root below k t is fresh r rows bytes)

below_read : (depth : ℕ) (block : Block) → ReadsBlocks block → (is_root : Bool) (number : ℕ) (rows : List Row) → ReadsBelow (value_below block depth is_root number rows)
below_read depth block h is_root number [] t is = absent_read t number is
below_read depth block h is_root number (r ∷ rows) t is =
    tagged_read depth block h is_root (value_below block depth is_root r.number rows) (below_read depth block h is_root r.number rows) t is true r rows r.content

values_read : (depth : ℕ) (block : Block) → ReadsBlocks block → (is_root fresh : Bool) (r : Row) (rows : List Row) (bytes : List ℕ)
    → IfOk (value_with block depth is_root untagged fresh r rows bytes) NodeRead
values_read depth block h is_root fresh r rows bytes =
    tagged_read depth block h is_root (value_below block depth is_root r.number rows) (below_read depth block h is_root r.number rows) untagged tt fresh r rows bytes

-- ---- sequences

item_is_read : (depth : ℕ) (block : Block) → ReadsBlocks block → (column : ℕ) (is_root : Bool) (e : Entry) → IfOk (item_of block depth column is_root e) NodeRead
item_is_read depth block h column is_root e =
    let behind = behind_dash e.first in
    on_both NodeRead ((e.first.column == column) && is_dash e.first.content) (value_with block depth false untagged true behind e.others behind.content) (no_entry is_root e.first)
    (values_read depth block h false true behind e.others behind.content) tt

abbrev ItemsOf : List Shape → Type 0
ItemsOf xs = AreEncodableItems false (of_list xs)

items_read : (item : Entry → Result Shape Fault) → ((e : Entry) → IfOk (item e) NodeRead) → (es : List Entry) → IfOk (items_of item es) ItemsOf
items_read item h [] = tt
items_read item h (e ∷ es) =
    let more = λ (x : Shape). items_of item es >>= λ xs. Ok (x ∷ xs) in
    on_bind NodeRead ItemsOf (item e) more (h e) (λ x one. on_bind ItemsOf ItemsOf (items_of item es) (λ xs. Ok (x ∷ xs)) (items_read item h es) (λ xs others. (one, others)))

-- ---- maps

key_is_read : (r : Row) → IfOk (key_of r) IsScalarKey
key_is_read r =
    let scalar = scalar_value modes.Resolved false r.content in
    on_bind (λ (k : Content × List ℕ). IsScalarKey k.0) IsScalarKey (in_row r scalar) (λ k. Ok k.0) (on_row (λ (k : Content × List ℕ). IsScalarKey k.0) r scalar (scalar_is_key false r.content)) (λ k h. h)

-- a key that the map doesn't have already
abbrev IsNewKey : List Content → Content → Type 0
IsNewKey keys key = IsScalarKey key × (list_any (same_key key) keys ≡ false)

new_key_is_read : (keys : List Content) (r : Row) → IfOk (new_key_of keys r) (IsNewKey keys)
new_key_is_read keys r =
    on_bind IsScalarKey (IsNewKey keys) (key_of r) (new_key keys r) (key_is_read r) (λ key h.
    on_test (IsNewKey keys) (list_any (same_key key) keys) (at_row r kinds.DuplicateKey) (Ok key) tt (λ new. (h, new)))

key_at_read : (column : ℕ) (is_root : Bool) (keys : List Content) (r : Row) → IfOk (key_at column is_root keys r) (IsNewKey keys)
key_at_read column is_root keys r =
    let a_key = if not (is_some (behind_key r.content)) then no_entry is_root r else new_key_of keys r in
    on_both (IsNewKey keys) (not (r.column == column)) (no_entry is_root r) (if not (begins_key r.content) then at_row r (wrong_key r.content) else a_key) tt
    (on_both (IsNewKey keys) (not (begins_key r.content)) (at_row r (wrong_key r.content)) a_key tt
    (on_both (IsNewKey keys) (not (is_some (behind_key r.content))) (no_entry is_root r) (new_key_of keys r) tt (new_key_is_read keys r)))

pair_is_read : (depth : ℕ) (block : Block) → ReadsBlocks block → (column : ℕ) (is_root : Bool) (keys : List Content) (e : Entry) → IfOk (pair_of block depth column is_root keys e) (IsPairRead keys)
pair_is_read depth block h column is_root keys e =
    let a_pair = λ (key : Content) (v : Shape). Ok (node e.first.number None key, v) in
    let further = λ (key : Content). value_of_entry block depth e >>= a_pair key in
    on_bind (IsNewKey keys) (IsPairRead keys) (key_at column is_root keys e.first) further (key_at_read column is_root keys e.first) (λ key new.
    on_bind NodeRead (IsPairRead keys) (value_of_entry block depth e) (a_pair key) (values_read depth block h false false e.first e.others (after_key (behind_key e.first.content))) (λ v value. ((refl, new.0), value, new.1)))

pairs_read : (pair : List Content → Entry → Result (Shape × Shape) Fault) → ((keys : List Content) (e : Entry) → IfOk (pair keys e) (IsPairRead keys)) → (keys : List Content) (es : List Entry)
    → IfOk (pairs_of pair keys es) (ArePairsRead keys)
pairs_read pair h keys [] = no_pairs_read keys
pairs_read pair h keys (e ∷ es) =
    let more = λ (p : Shape × Shape). pairs_of pair (content_of p.0 ∷ keys) es >>= λ ps. Ok (p ∷ ps) in
    on_bind (IsPairRead keys) (ArePairsRead keys) (pair keys e) more (h keys e) (λ p one.
    on_bind (ArePairsRead (content_of p.0 ∷ keys)) (ArePairsRead keys) (pairs_of pair (content_of p.0 ∷ keys) es) (λ ps. Ok (p ∷ ps)) (pairs_read pair h (content_of p.0 ∷ keys) es)
    (λ ps others. more_pairs_read keys p ps one others))

-- ---- depth

too_deep_read : (r : Row) (key : Result Content Fault) → IfOk (too_deep r key) CollectionRead
too_deep_read r (Ok key) = tt
too_deep_read r (Err e) = tt

pub blocks_read : (depth : ℕ) → ReadsBlocks (block_at depth)
unfolding block_at
blocks_read zero is_root r rows = on_both CollectionRead (is_dash r.content) (at_row r kinds.Depth) (too_deep r (key_of r)) tt (too_deep_read r (key_of r))
blocks_read (suc depth) is_root r rows =
    let items = items_at (block_at depth) depth is_root r rows in
    let pairs = pairs_at (block_at depth) depth is_root r rows in
    let a_sequence = λ (xs : List Shape). Ok (sequence (of_list xs)) in
    let a_map = λ (ps : List (Shape × Shape)). Ok (mapping (of_pairs ps)) in
    on_both CollectionRead (is_dash r.content) (items >>= a_sequence) (pairs >>= a_map)
    (on_bind ItemsOf CollectionRead items a_sequence
    (items_read (item_of (block_at depth) depth r.column is_root) (item_is_read depth (block_at depth) (blocks_read depth) r.column is_root) (sequence_entries r.column (r ∷ rows)))
    (λ xs h. (refl, h)))
    (on_bind (ArePairsRead []) CollectionRead pairs a_map
    (pairs_read (pair_of (block_at depth) depth r.column is_root) (pair_is_read depth (block_at depth) (blocks_read depth) r.column is_root) [] (map_entries r.column (r ∷ rows)))
    (λ ps h. (refl, (h.1, h.0))))

pub root_at_read : (r : Row) (rows : List Row) → IfOk (value_with (block_at 64) 64 true untagged true r rows r.content) NodeRead
root_at_read r rows = values_read 64 (block_at 64) (blocks_read 64) true true r rows r.content
