-- What is read from rows is sound, and no deeper than it may be.
use Rattle.std.proofs.Common.{ℕ, zero, suc, ◌≤◌, ◌==◌, ◌&&◌, not, Bool, true, false, if◌then◌else◌, List, [], ◌∷◌, codes, Option, Some, None, is_some, Result, Ok, Err, subst, arith}
use Rattle.std.specs.Prelude.{IfOk}
use Rattle.std.specs.List.{list_any, take_while}
use Rattle.launch_scalars.specs.declared.kind.YamlKind.TheVariants as kinds
use Rattle.launch_scalars.specs.declared.fault.LineFault.{LineFault}
use Rattle.launch_values.specs.declared.mode.Mode.TheVariants as modes
use Rattle.launch_values.specs.Shape.{Shape, Content, node, null, mapping, sequence, of_list, of_pairs, content_of, depth_of_items, depth_of_pairs}
use Rattle.launch_scalars.specs.Spaces.{is_one_of, begins_with, after_gap}
use Rattle.launch_values.specs.Resolution.{scalar_value}
use Rattle.launch_values.specs.Keys.{same_key}
use Rattle.launch_values.specs.Flow.{value_at}
use Rattle.launch_values.specs.Documents.{AreSoundItems, AreSoundPairs, IsDocument}
use Rattle.launch_values.proofs.SoundValues.{IsWithin, IsNodeWithin, ValueRead, line_within, scalar_within}
use Rattle.launch_values.specs.Views.{shape_of}
use Rattle.launch_yaml.specs.declared.document.Doc.{Doc}
use Rattle.launch_lines.specs.declared.fault.Fault.{Fault}
use Rattle.lists.specs.Results.{◌>>=◌, Gives}
use Rattle.lists.specs.declared.stop.Stop.{Stop}
use Rattle.lists.proofs.Steps.{on_both, on_bind, on_any}
use Rattle.launch_lines.specs.Faults.{unless, beside}
use Rattle.launch_lines.specs.Rows.{Row, rows_from, is_dash, begins_key, behind_key, after_key, at_row, in_row}
use Rattle.launch_yaml.specs.Entries.{Entry, map_entries, sequence_entries, after_while}
use Rattle.launch_yaml.specs.Blocks.{Tagging, untagged, tagged, in_base64, is_untagged, mode_of, node_of, binary_place, unless_binary, absent, wrong_in, tagging_at, text_behind, rows_behind, alone, Block, begins_block, value_in, unless_key, tagged_value_in, value_below, value_with, no_entry, behind_dash, item_of, items_of, key_of, wrong_key, new_key, new_key_of, key_at, value_of_entry, pair_of, pairs_of, too_deep, deepest, items_at, pairs_at, block_at}
use Rattle.launch_lines.specs.Lines.{lines, plain_fault}
use Rattle.launch_yaml.specs.Document.{after_head, first_column, is_inside, root_of, after_document, body_of, document_of, parse_at}

-- ---- results

on_unless : {A : Type 0} (P : A → Type 0) (e : Option Fault) (r : Result A Fault) → IfOk r P → IfOk (unless e r) P
on_unless P None r h = h
on_unless P (Some e) r h = tt

on_row : {A : Type 0} (P : A → Type 0) (r : Row) (read : Result A LineFault) → IfOk read P → IfOk (in_row r read) P
on_row P r (Ok x) h = h
on_row P r (Err e) h = tt

-- ---- tags

abbrev NodesOf : ℕ → Shape → Type 0
NodesOf depth x = IsNodeWithin depth x

of_tagging : (depth : ℕ) (t : Tagging) (line : ℕ) (value : Content) → IsWithin depth value → IsNodeWithin depth (node_of t line value)
of_tagging depth untagged line value h = h
of_tagging depth (tagged l name) line value h = h
of_tagging depth (in_base64 place) line value h = h

binary_within : (depth : ℕ) (t : Tagging) (r : Result Shape Fault) → IfOk r (NodesOf depth) → IfOk (unless_binary t r) (NodesOf depth)
binary_within depth t r h = on_unless (NodesOf depth) (binary_place t) r h

absent_within : (depth : ℕ) (t : Tagging) (line : ℕ) → IfOk (absent t line) (NodesOf depth)
absent_within depth t line = binary_within depth t (Ok (node_of t line null)) (of_tagging depth t line null (omega arith, tt))

-- ---- values in one line

alone_within : (depth : ℕ) (is_root : Bool) (t : Tagging) (r : Row) (rows : List Row) (bytes : List ℕ) → IfOk (alone depth is_root t r rows bytes) (NodesOf depth)
alone_within depth is_root t r rows bytes =
    let behind = rows_behind is_root r rows in
    let further = λ (v : Content × List ℕ). unless (text_behind r (after_gap v.1)) (unless behind (Ok (node_of t r.number v.0))) in
    on_bind (ValueRead depth) (NodesOf depth) (in_row r (value_at depth r.number (mode_of t) bytes)) further
    (on_row (ValueRead depth) r (value_at depth r.number (mode_of t) bytes) (line_within depth r.number (mode_of t) bytes))
    (λ v h. on_unless (NodesOf depth) (text_behind r (after_gap v.1)) _ (on_unless (NodesOf depth) behind (Ok (node_of t r.number v.0)) (of_tagging depth t r.number v.0 h)))

-- ---- values on rows

-- what reads blocks gives such of at most this depth
abbrev ReadsBlocks : ℕ → Block → Type 0
ReadsBlocks depth block = (is_root : Bool) (r : Row) (rows : List Row) → IfOk (block is_root r rows) (IsWithin depth)

in_collection : (depth : ℕ) (block : Block) → ReadsBlocks depth block → (is_root : Bool) (r : Row) (rows : List Row) (t : Tagging)
    → IfOk (block is_root r rows >>= λ value. Ok (node_of t r.number value)) (NodesOf depth)
in_collection depth block h is_root r rows t =
    on_bind (IsWithin depth) (NodesOf depth) (block is_root r rows) (λ value. Ok (node_of t r.number value)) (h is_root r rows) (λ value within. of_tagging depth t r.number value within)

-- what reads values gives such of at most this depth
abbrev ReadsBelow : ℕ → (Tagging → Result Shape Fault) → Type 0
ReadsBelow depth below = (t : Tagging) → IfOk (below t) (NodesOf depth)

value_in_within : (depth : ℕ) (block : Block) → ReadsBlocks depth block → (is_root : Bool) (below : Tagging → Result Shape Fault) → ReadsBelow depth below
    → (t : Tagging) (fresh : Bool) (r : Row) (rows : List Row) (bytes : List ℕ) → IfOk (value_in block depth is_root below t fresh r rows bytes) (NodesOf depth)
value_in_within depth block h is_root below k t fresh r rows [] = k t
value_in_within depth block h is_root below k t fresh r rows (b ∷ bs) =
    let a_line = alone depth is_root t r rows (b ∷ bs) in
    let a_tag : Result Shape Fault = unless_binary t (Err (wrong_in r kinds.Tag (b ∷ bs))) in
    let within = alone_within depth is_root t r rows (b ∷ bs) in
    on_both (NodesOf depth) (fresh && begins_block (b ∷ bs)) (unless_binary t (block is_root r rows >>= λ value. Ok (node_of t r.number value)))
    (if b == 33 then a_tag else if is_one_of (codes "[{") b then unless_binary t a_line else a_line)
    (binary_within depth t _ (in_collection depth block h is_root r rows t))
    (on_both (NodesOf depth) (b == 33) a_tag (if is_one_of (codes "[{") b then unless_binary t a_line else a_line)
    (binary_within depth t (Err (wrong_in r kinds.Tag (b ∷ bs))) tt)
    (on_both (NodesOf depth) (is_one_of (codes "[{") b) (unless_binary t a_line) a_line (binary_within depth t a_line within) within))

tagged_within : (depth : ℕ) (block : Block) → ReadsBlocks depth block → (is_root : Bool) (below : Tagging → Result Shape Fault) → ReadsBelow depth below
    → (t : Tagging) (fresh : Bool) (r : Row) (rows : List Row) (bytes : List ℕ) → IfOk (tagged_value_in block depth is_root below t fresh r rows bytes) (NodesOf depth)
tagged_within depth block h is_root below k t fresh r rows bytes =
    let behind = λ (u : Tagging × List ℕ). value_in block depth is_root below u.0 false r rows u.1 in
    let further = λ (u : Tagging × List ℕ). unless_key r u.1 (behind u) in
    on_both (NodesOf depth) (is_untagged t && begins_with 33 bytes) (tagging_at r bytes >>= further) (value_in block depth is_root below t fresh r rows bytes)
    (on_any (NodesOf depth) (tagging_at r bytes) further (λ u.
    on_both (NodesOf depth) (is_some (behind_key u.1)) (Err (wrong_in r kinds.Character u.1)) (behind u) tt (value_in_within depth block h is_root below k u.0 false r rows u.1)))
    (value_in_within depth block h is_root below k t fresh r rows bytes)

below_within : (depth : ℕ) (block : Block) → ReadsBlocks depth block → (is_root : Bool) (number : ℕ) (rows : List Row) → ReadsBelow depth (value_below block depth is_root number rows)
below_within depth block h is_root number [] t = absent_within depth t number
below_within depth block h is_root number (r ∷ rows) t =
    tagged_within depth block h is_root (value_below block depth is_root r.number rows) (below_within depth block h is_root r.number rows) t true r rows r.content

values_within : (depth : ℕ) (block : Block) → ReadsBlocks depth block → (is_root : Bool) (t : Tagging) (fresh : Bool) (r : Row) (rows : List Row) (bytes : List ℕ)
    → IfOk (value_with block depth is_root t fresh r rows bytes) (NodesOf depth)
values_within depth block h is_root t fresh r rows bytes =
    tagged_within depth block h is_root (value_below block depth is_root r.number rows) (below_within depth block h is_root r.number rows) t fresh r rows bytes

-- ---- sequences

item_within : (depth : ℕ) (block : Block) → ReadsBlocks depth block → (column : ℕ) (is_root : Bool) (e : Entry) → IfOk (item_of block depth column is_root e) (NodesOf depth)
item_within depth block h column is_root e =
    let behind = behind_dash e.first in
    on_both (NodesOf depth) ((e.first.column == column) && is_dash e.first.content) (value_with block depth false untagged true behind e.others behind.content) (no_entry is_root e.first)
    (values_within depth block h false untagged true behind e.others behind.content) tt

abbrev ItemsOf : ℕ → List Shape → Type 0
ItemsOf depth xs = (depth_of_items (of_list xs) ≤ depth) × AreSoundItems (of_list xs)

items_within : (depth : ℕ) (item : Entry → Result Shape Fault) → ((e : Entry) → IfOk (item e) (NodesOf depth)) → (es : List Entry) → IfOk (items_of item es) (ItemsOf depth)
items_within depth item h [] = (omega arith, tt)
items_within depth item h (e ∷ es) =
    let more = λ (x : Shape). items_of item es >>= λ xs. Ok (x ∷ xs) in
    on_bind (NodesOf depth) (ItemsOf depth) (item e) more (h e) (λ x one.
    on_bind (ItemsOf depth) (ItemsOf depth) (items_of item es) (λ xs. Ok (x ∷ xs)) (items_within depth item h es) (λ xs others. (omega (arith, one.0, others.0), (one.1, others.1))))

-- ---- maps

abbrev PairOf : ℕ → Shape × Shape → Type 0
PairOf depth p = IsNodeWithin depth p.0 × IsNodeWithin depth p.1

key_of_within : (depth : ℕ) (r : Row) → IfOk (key_of r) (IsWithin depth)
key_of_within depth r =
    on_bind (ValueRead depth) (IsWithin depth) (in_row r (scalar_value modes.Resolved false r.content)) (λ k. Ok k.0)
    (on_row (ValueRead depth) r (scalar_value modes.Resolved false r.content) (scalar_within depth modes.Resolved false r.content)) (λ k h. h)

new_key_within : (depth : ℕ) (keys : List Content) (r : Row) → IfOk (new_key_of keys r) (IsWithin depth)
new_key_within depth keys r =
    on_bind (IsWithin depth) (IsWithin depth) (key_of r) (new_key keys r) (key_of_within depth r) (λ key h.
    on_both (IsWithin depth) (list_any (same_key key) keys) (at_row r kinds.DuplicateKey) (Ok key) tt h)

key_at_within : (depth column : ℕ) (is_root : Bool) (keys : List Content) (r : Row) → IfOk (key_at column is_root keys r) (IsWithin depth)
key_at_within depth column is_root keys r =
    let a_key = if not (is_some (behind_key r.content)) then no_entry is_root r else new_key_of keys r in
    on_both (IsWithin depth) (not (r.column == column)) (no_entry is_root r) (if not (begins_key r.content) then at_row r (wrong_key r.content) else a_key) tt
    (on_both (IsWithin depth) (not (begins_key r.content)) (at_row r (wrong_key r.content)) a_key tt
    (on_both (IsWithin depth) (not (is_some (behind_key r.content))) (no_entry is_root r) (new_key_of keys r) tt (new_key_within depth keys r)))

pair_within : (depth : ℕ) (block : Block) → ReadsBlocks depth block → (column : ℕ) (is_root : Bool) (keys : List Content) (e : Entry) → IfOk (pair_of block depth column is_root keys e) (PairOf depth)
pair_within depth block h column is_root keys e =
    let a_pair = λ (key : Content) (v : Shape). Ok (node e.first.number None key, v) in
    let further = λ (key : Content). value_of_entry block depth e >>= a_pair key in
    on_bind (IsWithin depth) (PairOf depth) (key_at column is_root keys e.first) further (key_at_within depth column is_root keys e.first) (λ key within.
    on_bind (NodesOf depth) (PairOf depth) (value_of_entry block depth e) (a_pair key) (values_within depth block h false untagged false e.first e.others (after_key (behind_key e.first.content))) (λ v one. (within, one)))

abbrev PairsOf : ℕ → List (Shape × Shape) → Type 0
PairsOf depth ps = (depth_of_pairs (of_pairs ps) ≤ depth) × AreSoundPairs (of_pairs ps)

pairs_within : (depth : ℕ) (pair : List Content → Entry → Result (Shape × Shape) Fault) → ((keys : List Content) (e : Entry) → IfOk (pair keys e) (PairOf depth)) → (keys : List Content) (es : List Entry)
    → IfOk (pairs_of pair keys es) (PairsOf depth)
pairs_within depth pair h keys [] = (omega arith, tt)
pairs_within depth pair h keys (e ∷ es) =
    let more = λ (p : Shape × Shape). pairs_of pair (content_of p.0 ∷ keys) es >>= λ ps. Ok (p ∷ ps) in
    on_bind (PairOf depth) (PairsOf depth) (pair keys e) more (h keys e) (λ p one.
    on_bind (PairsOf depth) (PairsOf depth) (pairs_of pair (content_of p.0 ∷ keys) es) (λ ps. Ok (p ∷ ps)) (pairs_within depth pair h (content_of p.0 ∷ keys) es)
    (λ ps others. (omega (arith, one.0.0, one.1.0, others.0), (one.0.1, one.1.1, others.1))))

-- ---- depth

too_deep_within : (depth : ℕ) (r : Row) (key : Result Content Fault) → IfOk (too_deep r key) (IsWithin depth)
too_deep_within depth r (Ok key) = tt
too_deep_within depth r (Err e) = tt

deepest_within : (depth : ℕ) (r : Row) → IfOk (deepest r) (IsWithin depth)
deepest_within depth r = on_both (IsWithin depth) (is_dash r.content) (at_row r kinds.Depth) (too_deep r (key_of r)) tt (too_deep_within depth r (key_of r))

blocks_within : (depth : ℕ) → ReadsBlocks depth (block_at depth)
unfolding block_at
blocks_within zero is_root r rows = deepest_within 0 r
blocks_within (suc depth) is_root r rows =
    let items = items_at (block_at depth) depth is_root r rows in
    let pairs = pairs_at (block_at depth) depth is_root r rows in
    let a_sequence = λ (xs : List Shape). Ok (sequence (of_list xs)) in
    let a_map = λ (ps : List (Shape × Shape)). Ok (mapping (of_pairs ps)) in
    on_both (IsWithin (suc depth)) (is_dash r.content) (items >>= a_sequence) (pairs >>= a_map)
    (on_bind (ItemsOf depth) (IsWithin (suc depth)) items a_sequence
    (items_within depth (item_of (block_at depth) depth r.column is_root) (item_within depth (block_at depth) (blocks_within depth) r.column is_root) (sequence_entries r.column (r ∷ rows)))
    (λ xs h. (omega (arith, h.0), h.1)))
    (on_bind (PairsOf depth) (IsWithin (suc depth)) pairs a_map
    (pairs_within depth (pair_of (block_at depth) depth r.column is_root) (pair_within depth (block_at depth) (blocks_within depth) r.column is_root) [] (map_entries r.column (r ∷ rows)))
    (λ ps h. (omega (arith, h.0), h.1)))

-- ---- documents

root_within : (rows : List Row) → IfOk (root_of rows) IsDocument
root_within [] = (omega arith, tt)
root_within (r ∷ rows) = values_within 64 (block_at 64) (blocks_within 64) true untagged true r rows r.content

body_within : (rows : List Row) → IfOk (body_of rows) IsDocument
body_within rows =
    let test = is_inside (first_column rows) in
    let further = λ (x : Shape). unless (after_document (after_while test rows)) (Ok x) in
    on_bind IsDocument IsDocument (root_of (take_while test rows)) further (root_within (take_while test rows)) (λ x h. on_unless IsDocument (after_document (after_while test rows)) (Ok x) h)

document_within : (rows : List Row) → IfOk (document_of rows) IsDocument
document_within rows = on_any IsDocument (after_head rows) body_of body_within

on_beside : (e : Option Fault) (r : Result Shape Fault) → IfOk r IsDocument → IfOk (beside e r) IsDocument
on_beside None r h = h
on_beside (Some e) (Ok x) h = tt
on_beside (Some e) (Err f) h = tt

-- each document that is read is sound, and no deeper than it may be
pub parsed_is_document : (text : List ℕ) → IfOk (parse_at text) IsDocument
unfolding parse_at
parsed_is_document text = on_beside (plain_fault (lines text)) (document_of (rows_from 1 (lines text))) (document_within (rows_from 1 (lines text)))

pub is_document : (answer : Result Doc (Stop Fault)) (text : List ℕ) → Gives (λ (doc : Doc). shape_of doc.root) answer (parse_at text) → IfOk answer (λ doc. IsDocument (shape_of doc.root))
is_document (Ok doc) text e = subst (λ (r : Result Shape Fault). IfOk r IsDocument) e (parsed_is_document text)
is_document (Err stop) text e = tt
