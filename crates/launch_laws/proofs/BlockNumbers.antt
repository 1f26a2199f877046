-- What is read of rows, where they have other numbers.
use Rattle.std.proofs.Common.{◌≡◌, ℕ, zero, suc, ◌==◌, ◌&&◌, ◌||◌, not, Bool, true, false, cond, if◌then◌else◌, List, [], ◌∷◌, map, drop, codes, Option, Some, None, option_map, is_some, Result, Ok, Err, refl, sym, ap, ◌∙◌}
use Rattle.std.specs.Prelude.{nat_lt}
use Rattle.std.specs.List.{list_any, take_while}
use Rattle.std.proofs.lemmas.List.Sums.{take_while-cons}
use Rattle.launch_scalars.specs.declared.kind.YamlKind.TheVariants as kinds
use Rattle.launch_scalars.specs.declared.fault.LineFault.{LineFault}
use Rattle.launch_scalars.specs.Spaces.{is_one_of, begins_with, after_gap}
use Rattle.launch_values.specs.declared.mode.Mode.{Mode}
use Rattle.launch_values.specs.declared.mode.Mode.TheVariants as modes
use Rattle.launch_values.specs.Shape.{Shape, Content, Shapes, Pairs, node, null, mapping, sequence, of_list, of_pairs, content_of}
use Rattle.launch_values.specs.Resolution.{scalar_value}
use Rattle.launch_values.specs.Tags.{Tag, named, bytes_in_base64, tag_at}
use Rattle.launch_values.specs.Keys.{same_key}
use Rattle.launch_values.specs.Flow.{value_at}
use Rattle.launch_lines.specs.declared.fault.Fault.{Fault}
use Rattle.lists.specs.Results.{◌>>=◌}
use Rattle.launch_lines.specs.Faults.{unless, number_of_kind, comes_before, first_of}
use Rattle.launch_lines.specs.Rows.{Row, is_dash, is_open, begins_key, behind_key, after_key, at_row, in_row, is_start, is_stop, is_marker, is_directive}
use Rattle.launch_yaml.specs.Entries.{Entry, is_deeper, is_item_at, begins_with_item_at, belongs_there, belongs, entries_after, never, is_key_awaiting, map_entries, sequence_entries, after_while}
use Rattle.launch_yaml.specs.Blocks.{Tagging, untagged, tagged, in_base64, is_untagged, tagging_of, mode_of, node_of, unless_binary, absent, wrong_in, tagging_at, text_behind, rows_behind, alone, Block, begins_block, value_in, unless_key, tagged_value_in, value_below, value_with, no_entry, behind_dash, item_of, items_of, key_of, wrong_key, new_key, new_key_of, key_at, value_of_entry, pair_of, pairs_of, too_deep, deepest, block_at}
use Rattle.launch_yaml.specs.Document.{after_directive, after_head, first_column, is_inside, root_of, end_at, after_document, body_of, document_of}
use Rattle.launch_yaml.specs.Renumbering.{renumber, renumber_value, renumber_fault, renumber_row}
use Rattle.launch_laws.proofs.FlowNumbers.{mapped, renumber_pair, renumber_read, list_renumbered, pairs_renumbered, content_renumbered, keys_renumbered, scalar_stays, line_alike}
use Rattle.launch_laws.proofs.TagRows.{after_while-cons}

-- f keeps the order of numbers
abbrev pub Keeps : (ℕ → ℕ) → Type 0
Keeps f = (a b : ℕ) → (nat_lt (f a) (f b) ≡ nat_lt a b) × ((f a == f b) ≡ (a == b))

-- ---- results

abbrev pub reported : {A B : Type 0} → (ℕ → ℕ) → (A → B) → Result A Fault → Result B Fault
reported f g (Ok x) = Ok (g x)
reported f g (Err e) = Err (renumber_fault f e)

pub bind_reported : {A B C D : Type 0} (f : ℕ → ℕ) (h : A → B) (g : C → D) (r : Result A Fault) (k : A → Result C Fault) (l : B → Result D Fault) → ((x : A) → l (h x) ≡ reported f g (k x))
    → (reported f h r >>= l) ≡ reported f g (r >>= k)
bind_reported f h g (Ok x) k l alike = alike x
bind_reported f h g (Err e) k l alike = refl

both_reported : {A B : Type 0} (f : ℕ → ℕ) (g : A → B) (test : Bool) (r s : Result A Fault) (q p : Result B Fault) → q ≡ reported f g r → p ≡ reported f g s → (if test then q else p) ≡ reported f g (if test then r else s)
both_reported f g true r s q p h k = h
both_reported f g false r s q p h k = k

unless_reported : {A B : Type 0} (f : ℕ → ℕ) (g : A → B) (e d : Option Fault) (r : Result A Fault) (q : Result B Fault) → d ≡ option_map (renumber_fault f) e → q ≡ reported f g r → unless d q ≡ reported f g (unless e r)
unless_reported f g None d r q h k = ap (λ (o : Option Fault). unless o q) h ∙ k
unless_reported f g (Some e) d r q h k = ap (λ (o : Option Fault). unless o q) h

row_reported : {A B : Type 0} (f : ℕ → ℕ) (g : A → B) (r : Row) (x : Result A LineFault) → in_row (renumber_row f r) (mapped g x) ≡ reported f g (in_row r x)
row_reported f g r (Ok x) = refl
row_reported f g r (Err e) = refl

-- ---- tags

abbrev renumber_tagging : (ℕ → ℕ) → Tagging → Tagging
renumber_tagging f untagged = untagged
renumber_tagging f (tagged line name) = tagged (f line) name
renumber_tagging f (in_base64 place) = in_base64 (renumber_fault f place)

node_reported : (f : ℕ → ℕ) (t : Tagging) (line : ℕ) (c : Content) → node_of (renumber_tagging f t) (f line) (renumber_value f c) ≡ renumber f (node_of t line c)
node_reported f untagged line c = refl
node_reported f (tagged l name) line c = refl
node_reported f (in_base64 place) line c = refl

binary_reported : {A B : Type 0} (f : ℕ → ℕ) (g : A → B) (t : Tagging) (r : Result A Fault) (q : Result B Fault) → q ≡ reported f g r → unless_binary (renumber_tagging f t) q ≡ reported f g (unless_binary t r)
binary_reported f g untagged r q h = h
binary_reported f g (tagged l name) r q h = h
binary_reported f g (in_base64 place) r q h = refl

mode_reported : (f : ℕ → ℕ) (t : Tagging) → mode_of (renumber_tagging f t) ≡ mode_of t
mode_reported f untagged = refl
mode_reported f (tagged l name) = refl
mode_reported f (in_base64 place) = refl

untagged_reported : (f : ℕ → ℕ) (t : Tagging) → is_untagged (renumber_tagging f t) ≡ is_untagged t
untagged_reported f untagged = refl
untagged_reported f (tagged l name) = refl
untagged_reported f (in_base64 place) = refl

abbrev some_node : Shape → Result Shape Fault
some_node x = Ok x

absent_reported : (f : ℕ → ℕ) (t : Tagging) (line : ℕ) → absent (renumber_tagging f t) (f line) ≡ reported f (renumber f) (absent t line)
absent_reported f t line = binary_reported f (renumber f) t (Ok (node_of t line null)) _ (ap some_node (node_reported f t line null))

abbrev renumber_tag_read : (ℕ → ℕ) → Tagging × List ℕ → Tagging × List ℕ
renumber_tag_read f t = (renumber_tagging f t.0, t.1)

tagging_reported : (f : ℕ → ℕ) (r : Row) (bytes : List ℕ) → tagging_at (renumber_row f r) bytes ≡ reported f (renumber_tag_read f) (tagging_at r bytes)
tagging_reported f r bytes = of_tag (tag_at false (drop 1 bytes))
  where
    read : Row → Tag × List ℕ → Result (Tagging × List ℕ) Fault
    read s t = Ok (tagging_of (wrong_in s kinds.Tag bytes) t.0, after_gap t.1)

    of_tag : (x : Result (Tag × List ℕ) LineFault) → (in_row (renumber_row f r) x >>= read (renumber_row f r)) ≡ reported f (renumber_tag_read f) (in_row r x >>= read r)
    of_tag (Ok (named name, rest)) = refl
    of_tag (Ok (bytes_in_base64, rest)) = refl
    of_tag (Err e) = refl

-- ---- values in one line

abbrev renumber_rows : (ℕ → ℕ) → List Row → List Row
renumber_rows f rows = map (renumber_row f) rows

text_reported : (f : ℕ → ℕ) (r : Row) (bytes : List ℕ) → text_behind (renumber_row f r) bytes ≡ option_map (renumber_fault f) (text_behind r bytes)
text_reported f r [] = refl
text_reported f r (b ∷ bs) = refl

rows_reported : (f : ℕ → ℕ) (is_root : Bool) (r : Row) (rows : List Row) → rows_behind is_root (renumber_row f r) (renumber_rows f rows) ≡ option_map (renumber_fault f) (rows_behind is_root r rows)
rows_reported f is_root r [] = refl
rows_reported f is_root r (next ∷ rows) = refl

alone_reported : (f : ℕ → ℕ) (depth : ℕ) (is_root : Bool) (t : Tagging) (r : Row) (rows : List Row) (bytes : List ℕ)
    → alone depth is_root (renumber_tagging f t) (renumber_row f r) (renumber_rows f rows) bytes ≡ reported f (renumber f) (alone depth is_root t r rows bytes)
alone_reported f depth is_root t r rows bytes =
    let s = renumber_row f r in
    let further = λ (v : Content × List ℕ). unless (text_behind s (after_gap v.1)) (unless (rows_behind is_root s (renumber_rows f rows)) (Ok (node_of (renumber_tagging f t) s.number v.0))) in
    ap (λ (m : Mode). in_row s (value_at depth s.number m bytes) >>= further) (mode_reported f t)
    ∙ ap (λ (x : Result (Content × List ℕ) LineFault). in_row s x >>= further) (line_alike f depth r.number (mode_of t) bytes)
    ∙ ap (λ (x : Result (Content × List ℕ) Fault). x >>= further) (row_reported f (renumber_read f) r (value_at depth r.number (mode_of t) bytes))
    ∙ bind_reported f (renumber_read f) (renumber f) (in_row r (value_at depth r.number (mode_of t) bytes)) _ further (λ v.
    unless_reported f (renumber f) (text_behind r (after_gap v.1)) _ _ _ (text_reported f r (after_gap v.1))
    (unless_reported f (renumber f) (rows_behind is_root r rows) _ _ _ (rows_reported f is_root r rows) (ap some_node (node_reported f t r.number v.0))))

-- ---- values on rows

-- what reads blocks reports the same of rows with other numbers
abbrev Reports : (ℕ → ℕ) → Block → Type 0
Reports f block = (is_root : Bool) (r : Row) (rows : List Row) → block is_root (renumber_row f r) (renumber_rows f rows) ≡ reported f (renumber_value f) (block is_root r rows)

abbrev ReportsBelow : (ℕ → ℕ) → (Tagging → Result Shape Fault) → (Tagging → Result Shape Fault) → Type 0
ReportsBelow f below others = (t : Tagging) → others (renumber_tagging f t) ≡ reported f (renumber f) (below t)

value_reported : (f : ℕ → ℕ) (block : Block) → Reports f block → (depth : ℕ) (is_root : Bool) (below others : Tagging → Result Shape Fault) → ReportsBelow f below others
    → (t : Tagging) (fresh : Bool) (r : Row) (rows : List Row) (bytes : List ℕ)
    → value_in block depth is_root others (renumber_tagging f t) fresh (renumber_row f r) (renumber_rows f rows) bytes ≡ reported f (renumber f) (value_in block depth is_root below t fresh r rows bytes)
value_reported f block h depth is_root below others k t fresh r rows [] = k t
value_reported f block h depth is_root below others k t fresh r rows (b ∷ bs) =
    let a_line = alone depth is_root t r rows (b ∷ bs) in
    let same = alone_reported f depth is_root t r rows (b ∷ bs) in
    let a_block = block is_root r rows >>= λ value. Ok (node_of t r.number value) in
    let a_tag : Result Shape Fault = Err (wrong_in r kinds.Tag (b ∷ bs)) in
    both_reported f (renumber f) (fresh && begins_block (b ∷ bs)) (unless_binary t a_block)
    (if b == 33 then unless_binary t a_tag else if is_one_of (codes "[{") b then unless_binary t a_line else a_line) _ _
    (binary_reported f (renumber f) t a_block _
    (ap (λ (x : Result Content Fault). x >>= λ value. Ok (node_of (renumber_tagging f t) (f r.number) value)) (h is_root r rows)
    ∙ bind_reported f (renumber_value f) (renumber f) (block is_root r rows) _ _ (λ value. ap some_node (node_reported f t r.number value))))
    (both_reported f (renumber f) (b == 33) (unless_binary t a_tag) (if is_one_of (codes "[{") b then unless_binary t a_line else a_line) _ _
    (binary_reported f (renumber f) t a_tag _ refl)
    (both_reported f (renumber f) (is_one_of (codes "[{") b) (unless_binary t a_line) a_line _ _ (binary_reported f (renumber f) t a_line _ same) same))

tagged_reported : (f : ℕ → ℕ) (block : Block) → Reports f block → (depth : ℕ) (is_root : Bool) (below others : Tagging → Result Shape Fault) → ReportsBelow f below others
    → (t : Tagging) (fresh : Bool) (r : Row) (rows : List Row) (bytes : List ℕ)
    → tagged_value_in block depth is_root others (renumber_tagging f t) fresh (renumber_row f r) (renumber_rows f rows) bytes ≡ reported f (renumber f) (tagged_value_in block depth is_root below t fresh r rows bytes)
tagged_reported f block h depth is_root below others k t fresh r rows bytes =
    let s = renumber_row f r in
    let ss = renumber_rows f rows in
    let plain = value_in block depth is_root others (renumber_tagging f t) fresh s ss bytes in
    let further = λ (u : Tagging × List ℕ). unless_key s u.1 (value_in block depth is_root others u.0 false s ss u.1) in
    let same = value_reported f block h depth is_root below others k in
    ap (λ (b : Bool). if b && begins_with 33 bytes then (tagging_at s bytes >>= further) else plain) (untagged_reported f t)
    ∙ both_reported f (renumber f) (is_untagged t && begins_with 33 bytes) (tagging_at r bytes >>= λ u. unless_key r u.1 (value_in block depth is_root below u.0 false r rows u.1))
    (value_in block depth is_root below t fresh r rows bytes) _ _
    (ap (λ (x : Result (Tagging × List ℕ) Fault). x >>= further) (tagging_reported f r bytes)
    ∙ bind_reported f (renumber_tag_read f) (renumber f) (tagging_at r bytes) _ further (λ u.
    both_reported f (renumber f) (is_some (behind_key u.1)) (Err (wrong_in r kinds.Character u.1)) (value_in block depth is_root below u.0 false r rows u.1) _ _ refl (same u.0 false r rows u.1)))
    (same t fresh r rows bytes)

below_reported : (f : ℕ → ℕ) (block : Block) → Reports f block → (depth : ℕ) (is_root : Bool) (number : ℕ) (rows : List Row)
    → ReportsBelow f (value_below block depth is_root number rows) (value_below block depth is_root (f number) (renumber_rows f rows))
below_reported f block h depth is_root number [] t = absent_reported f t number
below_reported f block h depth is_root number (r ∷ rows) t =
    tagged_reported f block h depth is_root (value_below block depth is_root r.number rows) (value_below block depth is_root (f r.number) (renumber_rows f rows))
    (below_reported f block h depth is_root r.number rows) t true r rows r.content

with_reported : (f : ℕ → ℕ) (block : Block) → Reports f block → (depth : ℕ) (is_root : Bool) (fresh : Bool) (r : Row) (rows : List Row) (bytes : List ℕ)
    → value_with block depth is_root untagged fresh (renumber_row f r) (renumber_rows f rows) bytes ≡ reported f (renumber f) (value_with block depth is_root untagged fresh r rows bytes)
with_reported f block h depth is_root fresh r rows bytes =
    tagged_reported f block h depth is_root (value_below block depth is_root r.number rows) (value_below block depth is_root (f r.number) (renumber_rows f rows))
    (below_reported f block h depth is_root r.number rows) untagged fresh r rows bytes

-- ---- entries

abbrev renumber_entry : (ℕ → ℕ) → Entry → Entry
renumber_entry f e = record { first = renumber_row f e.first; others = renumber_rows f e.others }

item_reported : (f : ℕ → ℕ) (column : ℕ) (rows : List Row) → begins_with_item_at column (renumber_rows f rows) ≡ begins_with_item_at column rows
item_reported f column [] = refl
item_reported f column (r ∷ rows) = ap (λ (b : Bool). is_item_at column r || (is_deeper column r && is_open r.content && b)) (item_reported f column rows)

belongs_reported : (f : ℕ → ℕ) (column : ℕ) (awaits : Bool) (rows : List Row) → belongs column awaits (renumber_rows f rows) ≡ belongs column awaits rows
belongs_reported f column awaits rows = ap (λ (b : Bool). belongs_there column (awaits && b)) (item_reported f column rows)

-- what a test says of a row, it says of the row with another number
abbrev Blind : (ℕ → ℕ) → (Row → Bool) → Type 0
Blind f test = (r : Row) → test (renumber_row f r) ≡ test r

take_reported : (f : ℕ → ℕ) (test : Row → Bool) → Blind f test → (rows : List Row) → take_while test (renumber_rows f rows) ≡ renumber_rows f (take_while test rows)
take_reported f test blind [] = refl
take_reported f test blind (r ∷ rows) =
    take_while-cons test (renumber_row f r) (renumber_rows f rows)
    ∙ ap (λ (b : Bool). cond b (renumber_row f r ∷ take_while test (renumber_rows f rows)) []) (blind r)
    ∙ ap (λ (xs : List Row). cond (test r) (renumber_row f r ∷ xs) []) (take_reported f test blind rows)
    ∙ by_test (test r)
    ∙ sym (ap (renumber_rows f) (take_while-cons test r rows))
  where
    by_test : (b : Bool) → cond b (renumber_row f r ∷ renumber_rows f (take_while test rows)) [] ≡ renumber_rows f (cond b (r ∷ take_while test rows) [])
    by_test true = refl
    by_test false = refl

drop_reported : (f : ℕ → ℕ) (test : Row → Bool) → Blind f test → (rows : List Row) → after_while test (renumber_rows f rows) ≡ renumber_rows f (after_while test rows)
drop_reported f test blind [] = refl
drop_reported f test blind (r ∷ rows) =
    after_while-cons test (renumber_row f r) (renumber_rows f rows)
    ∙ ap (λ (b : Bool). cond b (after_while test (renumber_rows f rows)) (renumber_rows f (r ∷ rows))) (blind r)
    ∙ ap (λ (xs : List Row). cond (test r) xs (renumber_rows f (r ∷ rows))) (drop_reported f test blind rows)
    ∙ by_test (test r)
    ∙ sym (ap (renumber_rows f) (after_while-cons test r rows))
  where
    by_test : (b : Bool) → cond b (renumber_rows f (after_while test rows)) (renumber_rows f (r ∷ rows)) ≡ renumber_rows f (cond b (after_while test rows) (r ∷ rows))
    by_test true = refl
    by_test false = refl

entries_reported : (f : ℕ → ℕ) (column : ℕ) (awaits before : Row → Bool) → Blind f awaits → Blind f before → (rows : List Row)
    → entries_after column awaits before (renumber_rows f rows) ≡ map (renumber_entry f) (entries_after column awaits before rows)
entries_reported f column awaits before blind blind_before [] = refl
entries_reported f column awaits before blind blind_before (r ∷ rows) =
    ap (λ (b : Bool). if b then entries_after column awaits before ss else heads (awaits s) ss) (blind_before r)
    ∙ ap (λ (w : Bool). if before r then entries_after column awaits before ss else heads w ss) (blind r)
    ∙ by_test (before r) (entries_reported f column awaits before blind blind_before rows)
    (entries_reported f column awaits (belongs column (awaits r) rows) blind (λ x. refl) rows)
  where
    s : Row
    s = renumber_row f r

    ss : List Row
    ss = renumber_rows f rows

    heads : Bool → List Row → List Entry
    heads w tail = record { first = s; others = take_while (belongs column w tail) tail } ∷ entries_after column awaits (belongs column w tail) tail

    entry : List Row → Entry
    entry xs = record { first = s; others = xs }

    by_test : (b : Bool) → entries_after column awaits before ss ≡ map (renumber_entry f) (entries_after column awaits before rows)
        → entries_after column awaits (belongs column (awaits r) rows) ss ≡ map (renumber_entry f) (entries_after column awaits (belongs column (awaits r) rows) rows)
        → (if b then entries_after column awaits before ss else heads (awaits r) ss)
        ≡ map (renumber_entry f) (if b then entries_after column awaits before rows else record { first = r; others = take_while (belongs column (awaits r) rows) rows } ∷ entries_after column awaits (belongs column (awaits r) rows) rows)
    by_test true h k = h
    by_test false h k =
        let test = belongs column (awaits r) rows in
        ap (λ (p : Row → Bool). entry (take_while p ss) ∷ entries_after column awaits p ss) (belongs_reported f column (awaits r) rows)
        ∙ ap (λ (xs : List Row). entry xs ∷ entries_after column awaits test ss) (take_reported f test (λ x. refl) rows)
        ∙ ap (λ (es : List Entry). entry (renumber_rows f (take_while test rows)) ∷ es) k

-- ---- items and pairs

items_reported : (f : ℕ → ℕ) (item : Entry → Result Shape Fault) → ((e : Entry) → item (renumber_entry f e) ≡ reported f (renumber f) (item e)) → (es : List Entry)
    → items_of item (map (renumber_entry f) es) ≡ reported f (map (renumber f)) (items_of item es)
items_reported f item h [] = refl
items_reported f item h (e ∷ es) =
    ap (λ (x : Result Shape Fault). x >>= λ y. items_of item (map (renumber_entry f) es) >>= λ ys. Ok (y ∷ ys)) (h e)
    ∙ bind_reported f (renumber f) (map (renumber f)) (item e) _ _ (λ x.
    ap (λ (xs : Result (List Shape) Fault). xs >>= λ ys. Ok (renumber f x ∷ ys)) (items_reported f item h es)
    ∙ bind_reported f (map (renumber f)) (map (renumber f)) (items_of item es) _ _ (λ xs. refl))

entry_item_reported : (f : ℕ → ℕ) (block : Block) → Reports f block → (depth column : ℕ) (is_root : Bool) (e : Entry)
    → item_of block depth column is_root (renumber_entry f e) ≡ reported f (renumber f) (item_of block depth column is_root e)
entry_item_reported f block h depth column is_root e =
    let behind = behind_dash e.first in
    both_reported f (renumber f) ((e.first.column == column) && is_dash e.first.content) (value_with block depth false untagged true behind e.others behind.content) (no_entry is_root e.first) _ _
    (with_reported f block h depth false true behind e.others behind.content) refl

key_reported : (f : ℕ → ℕ) (r : Row) → key_of (renumber_row f r) ≡ reported f (renumber_value f) (key_of r)
key_reported f r =
    let s = renumber_row f r in
    let key : Content × List ℕ → Result Content Fault = λ k. Ok k.0 in
    ap (λ (x : Result (Content × List ℕ) LineFault). in_row s x >>= key) (scalar_stays f modes.Resolved false r.content)
    ∙ ap (λ (x : Result (Content × List ℕ) Fault). x >>= key) (row_reported f (renumber_read f) r (scalar_value modes.Resolved false r.content))
    ∙ bind_reported f (renumber_read f) (renumber_value f) (in_row r (scalar_value modes.Resolved false r.content)) key key (λ k. refl)

new_key_reported : (f : ℕ → ℕ) (keys : List Content) (r : Row) → new_key_of (map (renumber_value f) keys) (renumber_row f r) ≡ reported f (renumber_value f) (new_key_of keys r)
new_key_reported f keys r =
    ap (λ (x : Result Content Fault). x >>= new_key (map (renumber_value f) keys) (renumber_row f r)) (key_reported f r)
    ∙ bind_reported f (renumber_value f) (renumber_value f) (key_of r) (new_key keys r) _ (λ key.
    ap (λ (b : Bool). if b then at_row (renumber_row f r) kinds.DuplicateKey else Ok (renumber_value f key)) (keys_renumbered f key keys)
    ∙ both_reported f (renumber_value f) (list_any (same_key key) keys) (at_row r kinds.DuplicateKey) (Ok key) _ _ refl refl)

key_at_reported : (f : ℕ → ℕ) (column : ℕ) (is_root : Bool) (keys : List Content) (r : Row)
    → key_at column is_root (map (renumber_value f) keys) (renumber_row f r) ≡ reported f (renumber_value f) (key_at column is_root keys r)
key_at_reported f column is_root keys r =
    let a_key = if not (is_some (behind_key r.content)) then no_entry is_root r else new_key_of keys r in
    let right = if not (begins_key r.content) then at_row r (wrong_key r.content) else a_key in
    both_reported f (renumber_value f) (not (r.column == column)) (no_entry is_root r) right _ _ refl
    (both_reported f (renumber_value f) (not (begins_key r.content)) (at_row r (wrong_key r.content)) a_key _ _ refl
    (both_reported f (renumber_value f) (not (is_some (behind_key r.content))) (no_entry is_root r) (new_key_of keys r) _ _ refl (new_key_reported f keys r)))

abbrev pair_up : ℕ → Content → Shape → Result (Shape × Shape) Fault
pair_up line key v = Ok (node line None key, v)

entry_pair_reported : (f : ℕ → ℕ) (block : Block) → Reports f block → (depth column : ℕ) (is_root : Bool) (keys : List Content) (e : Entry)
    → pair_of block depth column is_root (map (renumber_value f) keys) (renumber_entry f e) ≡ reported f (renumber_pair f) (pair_of block depth column is_root keys e)
entry_pair_reported f block h depth column is_root keys e =
    let value = value_of_entry block depth (renumber_entry f e) in
    ap (λ (x : Result Content Fault). x >>= λ key. value >>= pair_up (f e.first.number) key) (key_at_reported f column is_root keys e.first)
    ∙ bind_reported f (renumber_value f) (renumber_pair f) (key_at column is_root keys e.first) (λ key. value_of_entry block depth e >>= pair_up e.first.number key) (λ key. value >>= pair_up (f e.first.number) key) (λ key.
    ap (λ (x : Result Shape Fault). x >>= pair_up (f e.first.number) (renumber_value f key)) (with_reported f block h depth false false e.first e.others (after_key (behind_key e.first.content)))
    ∙ bind_reported f (renumber f) (renumber_pair f) (value_of_entry block depth e) (pair_up e.first.number key) (pair_up (f e.first.number) (renumber_value f key)) (λ v. refl))

pairs_reported : (f : ℕ → ℕ) (pair : List Content → Entry → Result (Shape × Shape) Fault)
    → ((keys : List Content) (e : Entry) → pair (map (renumber_value f) keys) (renumber_entry f e) ≡ reported f (renumber_pair f) (pair keys e)) → (keys : List Content) (es : List Entry)
    → pairs_of pair (map (renumber_value f) keys) (map (renumber_entry f) es) ≡ reported f (map (renumber_pair f)) (pairs_of pair keys es)
pairs_reported f pair h keys [] = refl
pairs_reported f pair h keys (e ∷ es) =
    let ks = map (renumber_value f) keys in
    let es2 = map (renumber_entry f) es in
    ap (λ (x : Result (Shape × Shape) Fault). x >>= λ p. pairs_of pair (content_of p.0 ∷ ks) es2 >>= λ ps. Ok (p ∷ ps)) (h keys e)
    ∙ bind_reported f (renumber_pair f) (map (renumber_pair f)) (pair keys e) (λ p. pairs_of pair (content_of p.0 ∷ keys) es >>= λ ps. Ok (p ∷ ps)) _ (λ p.
    ap (λ (c : Content). pairs_of pair (c ∷ ks) es2 >>= λ ps. Ok (renumber_pair f p ∷ ps)) (content_renumbered f p.0)
    ∙ ap (λ (x : Result (List (Shape × Shape)) Fault). x >>= λ ps. Ok (renumber_pair f p ∷ ps)) (pairs_reported f pair h (content_of p.0 ∷ keys) es)
    ∙ bind_reported f (map (renumber_pair f)) (map (renumber_pair f)) (pairs_of pair (content_of p.0 ∷ keys) es) _ _ (λ ps. refl))

-- ---- faults in order

before_reported : (f : ℕ → ℕ) → Keeps f → (a b : Fault) → comes_before (renumber_fault f a) (renumber_fault f b) ≡ comes_before a b
before_reported f keeps a b =
    let rest = nat_lt a.column b.column || ((a.column == b.column) && nat_lt (number_of_kind a.kind) (number_of_kind b.kind)) in
    ap (λ (x : Bool). x || ((f a.line == f b.line) && rest)) (keeps a.line b.line).0
    ∙ ap (λ (x : Bool). nat_lt a.line b.line || (x && rest)) (keeps a.line b.line).1

pub first_reported : (f : ℕ → ℕ) → Keeps f → (a b : Fault) → first_of (renumber_fault f a) (renumber_fault f b) ≡ renumber_fault f (first_of a b)
first_reported f keeps a b =
    ap (λ (t : Bool). if t then renumber_fault f b else renumber_fault f a) (before_reported f keeps b a) ∙ by_test (comes_before b a)
  where
    by_test : (t : Bool) → (if t then renumber_fault f b else renumber_fault f a) ≡ renumber_fault f (if t then b else a)
    by_test true = refl
    by_test false = refl

-- ---- blocks

too_deep_reported : (f : ℕ → ℕ) → Keeps f → (r : Row) (key : Result Content Fault) → too_deep (renumber_row f r) (reported f (renumber_value f) key) ≡ reported f (renumber_value f) (too_deep r key)
too_deep_reported f keeps r (Ok key) = refl
too_deep_reported f keeps r (Err e) =
    let failed : Fault → Result Content Fault = λ x. Err x in
    ap failed (first_reported f keeps e (record { line = r.number; column = r.column; kind = kinds.Depth }))

deepest_reported : (f : ℕ → ℕ) → Keeps f → (r : Row) → deepest (renumber_row f r) ≡ reported f (renumber_value f) (deepest r)
deepest_reported f keeps r =
    both_reported f (renumber_value f) (is_dash r.content) (at_row r kinds.Depth) (too_deep r (key_of r)) _ _ refl
    (ap (too_deep (renumber_row f r)) (key_reported f r) ∙ too_deep_reported f keeps r (key_of r))

abbrev as_content : Content → Result Content Fault
as_content c = Ok c

abbrev a_sequence : List Shape → Result Content Fault
a_sequence xs = Ok (sequence (of_list xs))

abbrev a_map : List (Shape × Shape) → Result Content Fault
a_map ps = Ok (mapping (of_pairs ps))

blocks_reported : (f : ℕ → ℕ) → Keeps f → (depth : ℕ) → Reports f (block_at depth)
unfolding block_at map_entries sequence_entries
blocks_reported f keeps zero is_root r rows = deepest_reported f keeps r
blocks_reported f keeps (suc depth) is_root r rows =
    let inner = block_at depth in
    let h = blocks_reported f keeps depth in
    let item = item_of inner depth r.column is_root in
    let pair = pair_of inner depth r.column is_root in
    let es = entries_after r.column never never (r ∷ rows) in
    let ps = entries_after r.column is_key_awaiting never (r ∷ rows) in
    both_reported f (renumber_value f) (is_dash r.content) (items_of item es >>= a_sequence) (pairs_of pair [] ps >>= a_map) _ _
    (ap (λ (x : List Entry). items_of item x >>= a_sequence) (entries_reported f r.column never never (λ x. refl) (λ x. refl) (r ∷ rows))
    ∙ ap (λ (x : Result (List Shape) Fault). x >>= a_sequence) (items_reported f item (entry_item_reported f inner h depth r.column is_root) es)
    ∙ bind_reported f (map (renumber f)) (renumber_value f) (items_of item es) a_sequence a_sequence (λ xs. ap (λ (ys : Shapes). as_content (sequence ys)) (list_renumbered f xs)))
    (ap (λ (x : List Entry). pairs_of pair [] x >>= a_map) (entries_reported f r.column is_key_awaiting never (λ x. refl) (λ x. refl) (r ∷ rows))
    ∙ ap (λ (x : Result (List (Shape × Shape)) Fault). x >>= a_map) (pairs_reported f pair (entry_pair_reported f inner h depth r.column is_root) [] ps)
    ∙ bind_reported f (map (renumber_pair f)) (renumber_value f) (pairs_of pair [] ps) a_map a_map (λ xs. ap (λ (ys : Pairs). as_content (mapping ys)) (pairs_renumbered f xs)))

-- ---- documents

head_reported : (f : ℕ → ℕ) (rows : List Row) → after_head (renumber_rows f rows) ≡ reported f (renumber_rows f) (after_head rows)
head_reported f [] = refl
head_reported f (r ∷ rows) =
    let all : Result (List Row) Fault = Ok (r ∷ rows) in
    let behind : Result (List Row) Fault = Ok rows in
    let text = if is_marker r && not (is_stop r) then at_row r kinds.Character else all in
    both_reported f (renumber_rows f) (is_directive r) (after_directive r rows) (if is_start r then behind else text) _ _ (directive rows)
    (both_reported f (renumber_rows f) (is_start r) behind text _ _ refl (both_reported f (renumber_rows f) (is_marker r && not (is_stop r)) (at_row r kinds.Character) all _ _ refl refl))
  where
    directive : (rest : List Row) → after_directive (renumber_row f r) (renumber_rows f rest) ≡ reported f (renumber_rows f) (after_directive r rest)
    directive [] = refl
    directive (s ∷ rest) =
        let further : Result (List Row) Fault = Ok rest in
        both_reported f (renumber_rows f) (is_start s) further (at_row r kinds.Character) _ _ refl refl

root_reported : (f : ℕ → ℕ) → Keeps f → f 1 ≡ 1 → (rows : List Row) → root_of (renumber_rows f rows) ≡ reported f (renumber f) (root_of rows)
root_reported f keeps one [] = ap (λ (n : ℕ). some_node (node n None null)) (sym one)
root_reported f keeps one (r ∷ rows) = with_reported f (block_at 64) (blocks_reported f keeps 64) 64 true true r rows r.content

end_reported : (f : ℕ → ℕ) (rows : List Row) → end_at (renumber_rows f rows) ≡ option_map (renumber_fault f) (end_at rows)
end_reported f [] = refl
end_reported f (r ∷ rows) = refl

behind_reported : (f : ℕ → ℕ) (rows : List Row) → after_document (renumber_rows f rows) ≡ option_map (renumber_fault f) (after_document rows)
behind_reported f [] = refl
behind_reported f (r ∷ rows) = by_test (is_stop r)
  where
    by_test : (t : Bool) → (if t then end_at (renumber_rows f rows) else end_at (renumber_rows f (r ∷ rows))) ≡ option_map (renumber_fault f) (if t then end_at rows else end_at (r ∷ rows))
    by_test true = end_reported f rows
    by_test false = refl

column_reported : (f : ℕ → ℕ) (rows : List Row) → first_column (renumber_rows f rows) ≡ first_column rows
column_reported f [] = refl
column_reported f (r ∷ rows) = refl

body_reported : (f : ℕ → ℕ) → Keeps f → f 1 ≡ 1 → (rows : List Row) → body_of (renumber_rows f rows) ≡ reported f (renumber f) (body_of rows)
body_reported f keeps one rows =
    let test = is_inside (first_column rows) in
    let ss = renumber_rows f rows in
    ap (λ (c : ℕ). root_of (take_while (is_inside c) ss) >>= λ x. unless (after_document (after_while (is_inside c) ss)) (Ok x)) (column_reported f rows)
    ∙ ap (λ (xs : List Row). root_of xs >>= λ x. unless (after_document (after_while test ss)) (Ok x)) (take_reported f test (λ x. refl) rows)
    ∙ ap (λ (x : Result Shape Fault). x >>= λ y. unless (after_document (after_while test ss)) (Ok y)) (root_reported f keeps one (take_while test rows))
    ∙ bind_reported f (renumber f) (renumber f) (root_of (take_while test rows)) (λ x. unless (after_document (after_while test rows)) (Ok x)) _ (λ x.
    unless_reported f (renumber f) (after_document (after_while test rows)) _ (some_node x) (some_node (renumber f x))
    (ap after_document (drop_reported f test (λ y. refl) rows) ∙ behind_reported f (after_while test rows)) refl)

pub document_reported : (f : ℕ → ℕ) → Keeps f → f 1 ≡ 1 → (rows : List Row) → document_of (renumber_rows f rows) ≡ reported f (renumber f) (document_of rows)
document_reported f keeps one rows =
    ap (λ (x : Result (List Row) Fault). x >>= body_of) (head_reported f rows)
    ∙ bind_reported f (renumber_rows f) (renumber f) (after_head rows) body_of body_of (body_reported f keeps one)
