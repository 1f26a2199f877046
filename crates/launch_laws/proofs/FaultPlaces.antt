-- Where the faults of rows stand: each on the line of a row that was read.
use Rattle.std.proofs.Common.{◌≡◌, ℕ, zero, suc, ◌==◌, ◌&&◌, not, Bool, true, false, cond, if◌then◌else◌, List, [], ◌∷◌, drop, codes, Option, Some, None, is_some, Result, Ok, Err, refl, sym, subst}
use Rattle.std.specs.List.{list_any, take_while, AllByRecursion}
use Rattle.std.proofs.lemmas.List.Sums.{take_while-cons}
use Rattle.launch_scalars.specs.declared.kind.YamlKind.TheVariants as kinds
use Rattle.launch_scalars.specs.declared.fault.LineFault.{LineFault}
use Rattle.launch_scalars.specs.Spaces.{is_one_of, begins_with, after_gap}
use Rattle.launch_values.specs.declared.mode.Mode.TheVariants as modes
use Rattle.launch_values.specs.Shape.{Shape, Content, node, null, mapping, sequence, of_list, of_pairs, content_of}
use Rattle.launch_values.specs.Resolution.{scalar_value}
use Rattle.launch_values.specs.Tags.{Tag, named, bytes_in_base64, tag_at}
use Rattle.launch_values.specs.Keys.{same_key}
use Rattle.launch_values.specs.Flow.{value_at}
use Rattle.launch_lines.specs.declared.fault.Fault.{Fault}
use Rattle.lists.specs.Results.{◌>>=◌}
use Rattle.lists.proofs.Chosen.{ok_is, err_ok}
use Rattle.launch_lines.specs.Faults.{unless, comes_before}
use Rattle.launch_lines.specs.Rows.{Row, is_dash, begins_key, behind_key, after_key, at_row, place_in, in_row, is_start, is_stop, is_marker, is_directive}
use Rattle.launch_yaml.specs.Entries.{Entry, belongs, entries_after, never, is_key_awaiting, map_entries, sequence_entries, after_while}
use Rattle.launch_yaml.specs.Blocks.{Tagging, untagged, tagged, in_base64, is_untagged, tagging_of, mode_of, node_of, unless_binary, absent, wrong_in, tagging_at, text_behind, rows_behind, alone, Block, begins_block, value_in, unless_key, tagged_value_in, value_below, value_with, no_entry, behind_dash, item_of, items_of, key_of, wrong_key, new_key, new_key_of, key_at, value_of_entry, pair_of, pairs_of, too_deep, items_at, pairs_at, block_at}
use Rattle.launch_yaml.specs.Document.{after_directive, first_column, is_inside, root_of, end_at, after_document, body_of, document_of}
use Rattle.launch_laws.proofs.TagRows.{after_while-cons}

-- ---- faults of which something holds

abbrev pub OfFault : {A : Type 0} → (Fault → Type 0) → Result A Fault → Type 0
OfFault Q (Ok x) = Unit {0}
OfFault Q (Err e) = Q e

abbrev pub OfSome : (Fault → Type 0) → Option Fault → Type 0
OfSome Q None = Unit {0}
OfSome Q (Some e) = Q e

-- it holds of each fault on the row's line
abbrev pub OfRow : (Fault → Type 0) → Row → Type 0
OfRow Q r = (e : Fault) → e.line ≡ r.number → Q e

abbrev pub OfRows : (Fault → Type 0) → List Row → Type 0
OfRows Q rows = AllByRecursion (OfRow Q) rows

abbrev pub OfTagging : (Fault → Type 0) → Tagging → Type 0
OfTagging Q untagged = Unit {0}
OfTagging Q (tagged line name) = Unit {0}
OfTagging Q (in_base64 place) = Q place

if_placed : {A : Type 0} (Q : Fault → Type 0) (test : Bool) (x y : Result A Fault) → OfFault Q x → OfFault Q y → OfFault Q (if test then x else y)
if_placed Q true x y h k = h
if_placed Q false x y h k = k

pub unless_placed : {A : Type 0} (Q : Fault → Type 0) (o : Option Fault) (x : Result A Fault) → OfSome Q o → OfFault Q x → OfFault Q (unless o x)
unless_placed Q None x h k = k
unless_placed Q (Some e) x h k = h

pub then_placed : {A B : Type 0} (Q : Fault → Type 0) (x : Result A Fault) (k : A → Result B Fault) → OfFault Q x → ((a : A) → x ≡ Ok a → OfFault Q (k a)) → OfFault Q (x >>= k)
then_placed Q (Ok a) k h l = l a refl
then_placed Q (Err e) k h l = h

row_placed : {A : Type 0} (Q : Fault → Type 0) (r : Row) (x : Result A LineFault) → OfRow Q r → OfFault Q (in_row r x)
row_placed Q r (Ok a) h = tt
row_placed Q r (Err e) h = h (place_in r e) refl

-- ---- tags

binary_placed : {A : Type 0} (Q : Fault → Type 0) (t : Tagging) (x : Result A Fault) → OfTagging Q t → OfFault Q x → OfFault Q (unless_binary t x)
binary_placed Q untagged x h k = k
binary_placed Q (tagged line name) x h k = k
binary_placed Q (in_base64 place) x h k = h

-- the tag that was read, with its place
abbrev tag_read : Row → List ℕ → Tag × List ℕ → Result (Tagging × List ℕ) Fault
tag_read r bytes t = Ok (tagging_of (wrong_in r kinds.Tag bytes) t.0, after_gap t.1)

tag_placed : (Q : Fault → Type 0) (r : Row) (bytes : List ℕ) (u : Tagging × List ℕ) → OfRow Q r → tagging_at r bytes ≡ Ok u → OfTagging Q u.0
tag_placed Q r bytes u h = of_tag (tag_at false (drop 1 bytes))
  where
    of_tag : (x : Result (Tag × List ℕ) LineFault) → (in_row r x >>= tag_read r bytes) ≡ Ok u → OfTagging Q u.0
    of_tag (Ok (named name, rest)) p = subst (λ (v : Tagging × List ℕ). OfTagging Q v.0) (ok_is _ u p) tt
    of_tag (Ok (bytes_in_base64, rest)) p = subst (λ (v : Tagging × List ℕ). OfTagging Q v.0) (ok_is _ u p) (h (wrong_in r kinds.Tag bytes) refl)
    of_tag (Err f) p = absurd (err_ok _ u p)

tagging_placed : (Q : Fault → Type 0) (r : Row) (bytes : List ℕ) → OfRow Q r → OfFault Q (tagging_at r bytes)
tagging_placed Q r bytes h =
    then_placed Q (in_row r (tag_at false (drop 1 bytes))) (tag_read r bytes) (row_placed Q r (tag_at false (drop 1 bytes)) h) (λ t p. tt)

-- ---- values in one line

text_placed : (Q : Fault → Type 0) (r : Row) (bytes : List ℕ) → OfRow Q r → OfSome Q (text_behind r bytes)
text_placed Q r [] h = tt
text_placed Q r (b ∷ bs) h = h _ refl

rows_placed : (Q : Fault → Type 0) (is_root : Bool) (r : Row) (rows : List Row) → OfRows Q rows → OfSome Q (rows_behind is_root r rows)
rows_placed Q is_root r [] h = tt
rows_placed Q is_root r (next ∷ rows) h = h.0 _ refl

alone_placed : (Q : Fault → Type 0) (depth : ℕ) (is_root : Bool) (t : Tagging) (r : Row) (rows : List Row) (bytes : List ℕ) → OfRow Q r → OfRows Q rows
    → OfFault Q (alone depth is_root t r rows bytes)
alone_placed Q depth is_root t r rows bytes h hs =
    then_placed Q (in_row r (value_at depth r.number (mode_of t) bytes)) (λ v. unless (text_behind r (after_gap v.1)) (unless (rows_behind is_root r rows) (Ok (node_of t r.number v.0))))
    (row_placed Q r (value_at depth r.number (mode_of t) bytes) h)
    (λ v p. unless_placed Q (text_behind r (after_gap v.1)) (unless (rows_behind is_root r rows) (Ok (node_of t r.number v.0))) (text_placed Q r (after_gap v.1) h)
    (unless_placed Q (rows_behind is_root r rows) (Ok (node_of t r.number v.0)) (rows_placed Q is_root r rows hs) tt))

-- ---- values on rows

abbrev pub BlockPlaced : (Fault → Type 0) → Block → Type 0
BlockPlaced Q block = (is_root : Bool) (r : Row) (rows : List Row) → OfRow Q r → OfRows Q rows → OfFault Q (block is_root r rows)

abbrev BelowPlaced : (Fault → Type 0) → (Tagging → Result Shape Fault) → Type 0
BelowPlaced Q below = (t : Tagging) → OfTagging Q t → OfFault Q (below t)

value_placed : (Q : Fault → Type 0) (block : Block) → BlockPlaced Q block → (depth : ℕ) (is_root : Bool) (below : Tagging → Result Shape Fault) → BelowPlaced Q below
    → (t : Tagging) → OfTagging Q t → (fresh : Bool) (r : Row) (rows : List Row) → OfRow Q r → OfRows Q rows → (bytes : List ℕ)
    → OfFault Q (value_in block depth is_root below t fresh r rows bytes)
value_placed Q block all depth is_root below k t of_t fresh r rows h hs [] = k t of_t
value_placed Q block all depth is_root below k t of_t fresh r rows h hs (b ∷ bs) =
    let a_line = alone depth is_root t r rows (b ∷ bs) in
    let a_tag : Result Shape Fault = unless_binary t (Err (wrong_in r kinds.Tag (b ∷ bs))) in
    let a_block = block is_root r rows >>= λ value. Ok (node_of t r.number value) in
    let line = alone_placed Q depth is_root t r rows (b ∷ bs) h hs in
    if_placed Q (fresh && begins_block (b ∷ bs)) (unless_binary t a_block) (if b == 33 then a_tag else if is_one_of (codes "[{") b then unless_binary t a_line else a_line)
    (binary_placed Q t a_block of_t (then_placed Q (block is_root r rows) (λ value. Ok (node_of t r.number value)) (all is_root r rows h hs) (λ value p. tt)))
    (if_placed Q (b == 33) a_tag (if is_one_of (codes "[{") b then unless_binary t a_line else a_line)
    (binary_placed Q t (Err (wrong_in r kinds.Tag (b ∷ bs))) of_t (h _ refl))
    (if_placed Q (is_one_of (codes "[{") b) (unless_binary t a_line) a_line (binary_placed Q t a_line of_t line) line))

tagged_placed : (Q : Fault → Type 0) (block : Block) → BlockPlaced Q block → (depth : ℕ) (is_root : Bool) (below : Tagging → Result Shape Fault) → BelowPlaced Q below
    → (t : Tagging) → OfTagging Q t → (fresh : Bool) (r : Row) (rows : List Row) → OfRow Q r → OfRows Q rows → (bytes : List ℕ)
    → OfFault Q (tagged_value_in block depth is_root below t fresh r rows bytes)
tagged_placed Q block all depth is_root below k t of_t fresh r rows h hs bytes =
    let behind = λ (u : Tagging × List ℕ). value_in block depth is_root below u.0 false r rows u.1 in
    let further = λ (u : Tagging × List ℕ). unless_key r u.1 (behind u) in
    if_placed Q (is_untagged t && begins_with 33 bytes) (tagging_at r bytes >>= further) (value_in block depth is_root below t fresh r rows bytes)
    (then_placed Q (tagging_at r bytes) further (tagging_placed Q r bytes h) (λ u p.
    if_placed Q (is_some (behind_key u.1)) (Err (wrong_in r kinds.Character u.1)) (behind u) (h _ refl)
    (value_placed Q block all depth is_root below k u.0 (tag_placed Q r bytes u h p) false r rows h hs u.1)))
    (value_placed Q block all depth is_root below k t of_t fresh r rows h hs bytes)

absent_placed : (Q : Fault → Type 0) (t : Tagging) (line : ℕ) → OfTagging Q t → OfFault Q (absent t line)
absent_placed Q t line h = binary_placed Q t (Ok (node_of t line null)) h tt

pub below_placed : (Q : Fault → Type 0) (block : Block) → BlockPlaced Q block → (depth : ℕ) (is_root : Bool) (number : ℕ) (rows : List Row) → OfRows Q rows
    → (t : Tagging) → OfTagging Q t → OfFault Q (value_below block depth is_root number rows t)
below_placed Q block all depth is_root number [] hs t of_t = absent_placed Q t number of_t
below_placed Q block all depth is_root number (r ∷ rows) hs t of_t =
    tagged_placed Q block all depth is_root (value_below block depth is_root r.number rows) (below_placed Q block all depth is_root r.number rows hs.1)
    t of_t true r rows hs.0 hs.1 r.content

with_placed : (Q : Fault → Type 0) (block : Block) → BlockPlaced Q block → (depth : ℕ) (is_root fresh : Bool) (r : Row) (rows : List Row) → OfRow Q r → OfRows Q rows → (bytes : List ℕ)
    → OfFault Q (value_with block depth is_root untagged fresh r rows bytes)
with_placed Q block all depth is_root fresh r rows h hs bytes =
    tagged_placed Q block all depth is_root (value_below block depth is_root r.number rows) (below_placed Q block all depth is_root r.number rows hs) untagged tt fresh r rows h hs bytes

-- ---- entries

abbrev pub OfEntry : (Row → Type 0) → Entry → Type 0
OfEntry P e = P e.first × AllByRecursion P e.others

abbrev pub OfEntries : (Row → Type 0) → List Entry → Type 0
OfEntries P es = AllByRecursion (OfEntry P) es

pub taken_all : (P : Row → Type 0) (test : Row → Bool) (rows : List Row) → AllByRecursion P rows → AllByRecursion P (take_while test rows)
taken_all P test [] h = tt
taken_all P test (r ∷ rows) h = subst (AllByRecursion P) (sym (take_while-cons test r rows)) (by_test (test r) (taken_all P test rows h.1))
  where
    by_test : (t : Bool) → AllByRecursion P (take_while test rows) → AllByRecursion P (cond t (r ∷ take_while test rows) [])
    by_test true k = (h.0, k)
    by_test false k = tt

pub left_all : (P : Row → Type 0) (test : Row → Bool) (rows : List Row) → AllByRecursion P rows → AllByRecursion P (after_while test rows)
left_all P test [] h = tt
left_all P test (r ∷ rows) h = subst (AllByRecursion P) (sym (after_while-cons test r rows)) (by_test (test r) (left_all P test rows h.1))
  where
    by_test : (t : Bool) → AllByRecursion P (after_while test rows) → AllByRecursion P (cond t (after_while test rows) (r ∷ rows))
    by_test true k = k
    by_test false k = h

pub entries_all : (P : Row → Type 0) (column : ℕ) (awaits before : Row → Bool) (rows : List Row) → AllByRecursion P rows → OfEntries P (entries_after column awaits before rows)
entries_all P column awaits before [] h = tt
entries_all P column awaits before (r ∷ rows) h = by_test (before r) (entries_all P column awaits before rows h.1) (entries_all P column awaits (belongs column (awaits r) rows) rows h.1)
  where
    test : Row → Bool
    test = belongs column (awaits r) rows

    by_test : (t : Bool) → OfEntries P (entries_after column awaits before rows) → OfEntries P (entries_after column awaits test rows)
        → OfEntries P (if t then entries_after column awaits before rows else record { first = r; others = take_while test rows } ∷ entries_after column awaits test rows)
    by_test true k l = k
    by_test false k l = ((h.0, taken_all P test rows h.1), l)

-- what is read of an entry, whose faults stand in it
abbrev pub EntryPlaced : {A : Type 0} → (Fault → Type 0) → (Entry → Result A Fault) → Type 0
EntryPlaced Q read = (e : Entry) → OfEntry (OfRow Q) e → OfFault Q (read e)

pub items_placed : (Q : Fault → Type 0) (item : Entry → Result Shape Fault) → EntryPlaced Q item → (es : List Entry) → OfEntries (OfRow Q) es → OfFault Q (items_of item es)
items_placed Q item all [] h = tt
items_placed Q item all (e ∷ es) h =
    then_placed Q (item e) (λ x. items_of item es >>= λ xs. Ok (x ∷ xs)) (all e h.0) (λ x p.
    then_placed Q (items_of item es) (λ xs. Ok (x ∷ xs)) (items_placed Q item all es h.1) (λ xs q. tt))

pub pairs_placed : (Q : Fault → Type 0) (pair : List Content → Entry → Result (Shape × Shape) Fault) → ((keys : List Content) → EntryPlaced Q (pair keys))
    → (keys : List Content) (es : List Entry) → OfEntries (OfRow Q) es → OfFault Q (pairs_of pair keys es)
pairs_placed Q pair all keys [] h = tt
pairs_placed Q pair all keys (e ∷ es) h =
    then_placed Q (pair keys e) (λ p. pairs_of pair (content_of p.0 ∷ keys) es >>= λ ps. Ok (p ∷ ps)) (all keys e h.0) (λ p q.
    then_placed Q (pairs_of pair (content_of p.0 ∷ keys) es) (λ ps. Ok (p ∷ ps)) (pairs_placed Q pair all (content_of p.0 ∷ keys) es h.1) (λ ps s. tt))

pub item_placed : (Q : Fault → Type 0) (block : Block) → BlockPlaced Q block → (depth column : ℕ) (is_root : Bool) → EntryPlaced Q (item_of block depth column is_root)
item_placed Q block all depth column is_root e h =
    let behind = behind_dash e.first in
    if_placed Q ((e.first.column == column) && is_dash e.first.content) (value_with block depth false untagged true behind e.others behind.content) (no_entry is_root e.first)
    (with_placed Q block all depth false true behind e.others h.0 h.1 behind.content) (h.0 _ refl)

read_placed : (Q : Fault → Type 0) (r : Row) → OfRow Q r → OfFault Q (key_of r)
read_placed Q r h =
    then_placed Q (in_row r (scalar_value modes.Resolved false r.content)) (λ k. Ok k.0) (row_placed Q r (scalar_value modes.Resolved false r.content) h) (λ k p. tt)

key_placed : (Q : Fault → Type 0) (column : ℕ) (is_root : Bool) (keys : List Content) (r : Row) → OfRow Q r → OfFault Q (key_at column is_root keys r)
key_placed Q column is_root keys r h =
    let a_key = if not (is_some (behind_key r.content)) then no_entry is_root r else new_key_of keys r in
    if_placed Q (not (r.column == column)) (no_entry is_root r) (if not (begins_key r.content) then at_row r (wrong_key r.content) else a_key) (h _ refl)
    (if_placed Q (not (begins_key r.content)) (at_row r (wrong_key r.content)) a_key (h _ refl)
    (if_placed Q (not (is_some (behind_key r.content))) (no_entry is_root r) (new_key_of keys r) (h _ refl)
    (then_placed Q (key_of r) (new_key keys r) (read_placed Q r h) (λ key p. if_placed Q (list_any (same_key key) keys) (at_row r kinds.DuplicateKey) (Ok key) (h _ refl) tt))))

abbrev pair_up : ℕ → Content → Shape → Shape × Shape
pair_up line key v = (node line None key, v)

pub pair_placed : (Q : Fault → Type 0) (block : Block) → BlockPlaced Q block → (depth column : ℕ) (is_root : Bool) (keys : List Content) → EntryPlaced Q (pair_of block depth column is_root keys)
pair_placed Q block all depth column is_root keys e h =
    let a_pair = λ (key : Content) (v : Shape). Ok (pair_up e.first.number key v) in
    then_placed Q (key_at column is_root keys e.first) (λ key. value_of_entry block depth e >>= a_pair key) (key_placed Q column is_root keys e.first h.0) (λ key p.
    then_placed Q (value_of_entry block depth e) (a_pair key) (with_placed Q block all depth false false e.first e.others h.0 h.1 (after_key (behind_key e.first.content))) (λ v q. tt))

-- ---- blocks

deep_placed : (Q : Fault → Type 0) (r : Row) (key : Result Content Fault) → OfRow Q r → OfFault Q key → OfFault Q (too_deep r key)
deep_placed Q r (Ok key) h k = h _ refl
deep_placed Q r (Err e) h k = by_test (comes_before deep e)
  where
    deep : Fault
    deep = record { line = r.number; column = r.column; kind = kinds.Depth }

    by_test : (t : Bool) → Q (if t then deep else e)
    by_test true = h deep refl
    by_test false = k

pub blocks_placed : (Q : Fault → Type 0) (depth : ℕ) → BlockPlaced Q (block_at depth)
unfolding block_at map_entries sequence_entries
blocks_placed Q zero is_root r rows h hs =
    if_placed Q (is_dash r.content) (at_row r kinds.Depth) (too_deep r (key_of r)) (h _ refl) (deep_placed Q r (key_of r) h (read_placed Q r h))
blocks_placed Q (suc depth) is_root r rows h hs =
    let inner = block_at depth in
    let items = items_at inner depth is_root r rows in
    let pairs = pairs_at inner depth is_root r rows in
    let a_sequence = λ (xs : List Shape). Ok (sequence (of_list xs)) in
    let a_map = λ (ps : List (Shape × Shape)). Ok (mapping (of_pairs ps)) in
    if_placed Q (is_dash r.content) (items >>= a_sequence) (pairs >>= a_map)
    (then_placed Q items a_sequence
    (items_placed Q (item_of inner depth r.column is_root) (item_placed Q inner (blocks_placed Q depth) depth r.column is_root) (sequence_entries r.column (r ∷ rows))
    (entries_all (OfRow Q) r.column never never (r ∷ rows) (h, hs))) (λ xs p. tt))
    (then_placed Q pairs a_map
    (pairs_placed Q (pair_of inner depth r.column is_root) (pair_placed Q inner (blocks_placed Q depth) depth r.column is_root) [] (map_entries r.column (r ∷ rows))
    (entries_all (OfRow Q) r.column is_key_awaiting never (r ∷ rows) (h, hs))) (λ ps p. tt))

-- ---- documents

root_placed : (Q : Fault → Type 0) (rows : List Row) → OfRows Q rows → OfFault Q (root_of rows)
root_placed Q [] h = tt
root_placed Q (r ∷ rows) h = with_placed Q (block_at 64) (blocks_placed Q 64) 64 true true r rows h.0 h.1 r.content

pub end_placed : (Q : Fault → Type 0) (rows : List Row) → OfRows Q rows → OfSome Q (end_at rows)
end_placed Q [] h = tt
end_placed Q (r ∷ rows) h = h.0 _ refl

pub behind_placed : (Q : Fault → Type 0) (rows : List Row) → OfRows Q rows → OfSome Q (after_document rows)
behind_placed Q [] h = tt
behind_placed Q (r ∷ rows) h = by_test (is_stop r)
  where
    by_test : (t : Bool) → OfSome Q (if t then end_at rows else end_at (r ∷ rows))
    by_test true = end_placed Q rows h.1
    by_test false = h.0 _ refl

pub body_placed : (Q : Fault → Type 0) (rows : List Row) → OfRows Q rows → OfFault Q (body_of rows)
body_placed Q rows h =
    let test = is_inside (first_column rows) in
    then_placed Q (root_of (take_while test rows)) (λ x. unless (after_document (after_while test rows)) (Ok x))
    (root_placed Q (take_while test rows) (taken_all (OfRow Q) test rows h))
    (λ x p. unless_placed Q (after_document (after_while test rows)) (Ok x) (behind_placed Q (after_while test rows) (left_all (OfRow Q) test rows h)) tt)

pub directive_placed : (Q : Fault → Type 0) (r : Row) (rows : List Row) → OfRow Q r → OfRows Q rows → OfFault Q (after_directive r rows >>= body_of)
directive_placed Q r [] h hs = h _ refl
directive_placed Q r (s ∷ rows) h hs = by_test (is_start s)
  where
    by_test : (t : Bool) → OfFault Q ((if t then Ok rows else at_row r kinds.Character) >>= body_of)
    by_test true = body_placed Q rows hs.1
    by_test false = h _ refl

pub document_placed : (Q : Fault → Type 0) (rows : List Row) → OfRows Q rows → OfFault Q (document_of rows)
document_placed Q [] h = tt
document_placed Q (r ∷ rows) h = by_tests (is_directive r) (is_start r) (is_marker r && not (is_stop r))
  where
    by_tests : (a b c : Bool) → OfFault Q ((if a then after_directive r rows else if b then Ok rows else if c then at_row r kinds.Character else Ok (r ∷ rows)) >>= body_of)
    by_tests true b c = directive_placed Q r rows h.0 h.1
    by_tests false true c = body_placed Q rows h.1
    by_tests false false true = h.0 _ refl
    by_tests false false false = body_placed Q (r ∷ rows) h
