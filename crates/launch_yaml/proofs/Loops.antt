-- Entries that are read one after the other, as a loop does.
use Rattle.std.proofs.Common.{◌≡◌, ◌≤◌, ◌-◌, ℕ, suc, List, [], ◌∷◌, ◌++◌, length, take, drop, Bool, true, false, cond, Option, Some, None, Result, Ok, Err, refl, sym, ap, subst, ◌∙◌, append_assoc, ◌+◌, arith}
use Rattle.std.proofs.Math.Seq.{take-length}
use Rattle.std.proofs.lemmas.List.{append-nil}
use Rattle.std.specs.Prelude.{◌&&◌, ◌||◌, not, ◌==◌, if◌then◌else◌, is_some}
use Rattle.std.specs.List.{take_while, prefix_len, list_any}
use Rattle.launch_values.specs.Shape.{Shape, Content, node, content_of}
use Rattle.launch_values.specs.Keys.{same_key}
use Rattle.launch_scalars.specs.declared.kind.YamlKind.TheVariants as kinds
use Rattle.launch_lines.specs.declared.fault.Fault.{Fault}
use Rattle.launch_lines.specs.declared.line.Line.{Line}
use Rattle.lists.specs.declared.stop.Stop.{Stop}
use Rattle.lists.specs.Results.{◌>>=◌, Gives}
use Rattle.launch_values.specs.declared.node.Node.{Node}
use Rattle.launch_values.specs.Views.{shape_of}
use Rattle.std.proofs.lemmas.Bool.Decides.{nat_tests}
use Rattle.lists.proofs.Steps.{bind_alike}
use Rattle.launch_lines.specs.Rows.{Row, is_dash, at_row, begins_key, behind_key}
use Rattle.launch_yaml.specs.Entries.{Entry, after_while, belongs, entries_after, never, is_key_awaiting, map_entries, sequence_entries}
use Rattle.launch_yaml.specs.Blocks.{Block, untagged, value_with, behind_dash, item_of, items_of, pairs_of, pair_of, key_of, new_key_of, key_at, no_entry, wrong_key, value_of_entry, block_at}
use Rattle.launch_lines.specs.Views.{row, rows, lines_from}

-- what was read before, and what is still read
abbrev pub with_front : {A : Type 0} → List A → Result (List A) Fault → Result (List A) Fault
with_front front read = read >>= λ xs. Ok (front ++ xs)

-- the lines behind an entry are fewer than those from it on
pub fewer_lines : (others : ℕ) (next following : Option Line) (rest after behind : List Line) (first : Line) → next ≡ Some first → lines_from following behind ≡ after → length after ≤ length rest
    → length (lines_from next rest) ≤ suc others → length (lines_from following behind) ≤ suc others
fewer_lines others next following rest after behind first is same shorter fewer =
    let here : length (lines_from next rest) ≡ suc (length rest) = ap (λ (n : Option Line). length (lines_from n rest)) is in
    omega (arith, here, ap length same, shorter, fewer)

-- ---- the entries of rows, one after the other

-- the entries behind the rows that belong to one
skipped : (column : ℕ) (awaits before : Row → Bool) (rs : List Row) → entries_after column awaits before rs ≡ entries_after column awaits never (after_while before rs)
skipped column awaits before [] = refl
skipped column awaits before (r ∷ rs) = further (before r) (skipped column awaits before rs)
  where
    further : (b : Bool) → entries_after column awaits before rs ≡ entries_after column awaits never (after_while before rs)
        → (if b then entries_after column awaits before rs else record { first = r; others = take_while (belongs column (awaits r) rs) rs } ∷ entries_after column awaits (belongs column (awaits r) rs) rs)
        ≡ entries_after column awaits never (drop (cond b (1 + prefix_len before rs) 0) (r ∷ rs))
    further true h =
        let one : suc (prefix_len before rs) ≡ 1 + prefix_len before rs = omega arith in
        h ∙ ap (λ n. entries_after column awaits never (drop n (r ∷ rs))) one
    further false h = refl

sequence_more : (column : ℕ) (r : Row) (rs : List Row)
    → sequence_entries column (r ∷ rs) ≡ record { first = r; others = take_while (belongs column false rs) rs } ∷ sequence_entries column (after_while (belongs column false rs) rs)
unfolding sequence_entries
sequence_more column r rs =
    ap (λ (es : List Entry). record { first = r; others = take_while (belongs column false rs) rs } ∷ es) (skipped column never (belongs column false rs) rs)

map_more : (column : ℕ) (r : Row) (rs : List Row)
    → map_entries column (r ∷ rs) ≡ record { first = r; others = take_while (belongs column (is_key_awaiting r) rs) rs } ∷ map_entries column (after_while (belongs column (is_key_awaiting r) rs) rs)
unfolding map_entries
map_more column r rs =
    ap (λ (es : List Entry). record { first = r; others = take_while (belongs column (is_key_awaiting r) rs) rs } ∷ es) (skipped column is_key_awaiting (belongs column (is_key_awaiting r) rs) rs)

-- ---- a loop's steps

regroup : {A : Type 0} (front : List A) (x : A) (read : Result (List A) Fault) → with_front front (read >>= λ xs. Ok (x ∷ xs)) ≡ with_front (front ++ x ∷ []) read
regroup front x (Err e) = refl
regroup {A = A} front x (Ok xs) = let whole : List A → Result (List A) Fault = λ ys. Ok ys in ap whole (sym (append_assoc front (x ∷ []) xs))

-- ---- items

items_further : (item : Entry → Result Shape Fault) (e : Entry) (es : List Entry) (front : List Shape) (x : Shape) (total : Result (List Shape) Fault) → item e ≡ Ok x
    → with_front front (items_of item (e ∷ es)) ≡ total → with_front (front ++ x ∷ []) (items_of item es) ≡ total
items_further item e es front x total is so_far =
    let one : items_of item (e ∷ es) ≡ (items_of item es >>= λ xs. Ok (x ∷ xs)) = rw is refl in
    sym (regroup front x (items_of item es)) ∙ ap (with_front front) (sym one) ∙ so_far

items_stop : (item : Entry → Result Shape Fault) (e : Entry) (es : List Entry) (front : List Shape) (f : Fault) (total : Result (List Shape) Fault) → item e ≡ Err f
    → with_front front (items_of item (e ∷ es)) ≡ total → total ≡ Err f
items_stop item e es front f total is so_far =
    let one : items_of item (e ∷ es) ≡ Err f = rw is refl in
    sym so_far ∙ ap (with_front front) one

sequence_entries_are : (text : List ℕ) (column : ℕ) (next : Option Line) (first : Line) (rest mine after : List Line) → next ≡ Some first
    → rows text mine ≡ take_while (belongs column false (rows text rest)) (rows text rest)
    → rows text after ≡ after_while (belongs column false (rows text rest)) (rows text rest)
    → sequence_entries column (rows text (lines_from next rest)) ≡ record { first = row text first; others = rows text mine } ∷ sequence_entries column (rows text after)
sequence_entries_are text column next first rest mine after is p q =
    ap (λ (n : Option Line). sequence_entries column (rows text (lines_from n rest))) is
    ∙ sequence_more column (row text first) (rows text rest)
    ∙ ap (λ (rs : List Row). record { first = row text first; others = rs } ∷ sequence_entries column (after_while (belongs column false (rows text rest)) (rows text rest))) (sym p)
    ∙ ap (λ (rs : List Row). record { first = row text first; others = rows text mine } ∷ sequence_entries column rs) (sym q)

pub items_go_on : (item : Entry → Result Shape Fault) (text : List ℕ) (column : ℕ) (next : Option Line) (first : Line) (rest mine after : List Line) (front : List Shape) (x : Shape) (total : Result (List Shape) Fault)
    → next ≡ Some first
    → rows text mine ≡ take_while (belongs column false (rows text rest)) (rows text rest)
    → rows text after ≡ after_while (belongs column false (rows text rest)) (rows text rest)
    → item (record { first = row text first; others = rows text mine }) ≡ Ok x
    → with_front front (items_of item (sequence_entries column (rows text (lines_from next rest)))) ≡ total
    → with_front (front ++ x ∷ []) (items_of item (sequence_entries column (rows text after))) ≡ total
items_go_on item text column next first rest mine after front x total is p q read so_far =
    items_further item (record { first = row text first; others = rows text mine }) (sequence_entries column (rows text after)) front x total read
    (ap (λ (es : List Entry). with_front front (items_of item es)) (sym (sequence_entries_are text column next first rest mine after is p q)) ∙ so_far)

pub items_fail : (item : Entry → Result Shape Fault) (text : List ℕ) (column : ℕ) (next : Option Line) (first : Line) (rest mine after : List Line) (front : List Shape) (f : Fault) (total : Result (List Shape) Fault)
    → next ≡ Some first
    → rows text mine ≡ take_while (belongs column false (rows text rest)) (rows text rest)
    → rows text after ≡ after_while (belongs column false (rows text rest)) (rows text rest)
    → item (record { first = row text first; others = rows text mine }) ≡ Err f
    → with_front front (items_of item (sequence_entries column (rows text (lines_from next rest)))) ≡ total
    → total ≡ Err f
items_fail item text column next first rest mine after front f total is p q read so_far =
    items_stop item (record { first = row text first; others = rows text mine }) (sequence_entries column (rows text after)) front f total read
    (ap (λ (es : List Entry). with_front front (items_of item es)) (sym (sequence_entries_are text column next first rest mine after is p q)) ∙ so_far)

no_sequence_entries : (column : ℕ) → sequence_entries column [] ≡ []
unfolding sequence_entries
no_sequence_entries column = refl

pub items_done : (item : Entry → Result Shape Fault) (text : List ℕ) (column : ℕ) (next : Option Line) (rest : List Line) (front : List Shape) (total : Result (List Shape) Fault)
    → next ≡ None → with_front front (items_of item (sequence_entries column (rows text (lines_from next rest)))) ≡ total → total ≡ Ok front
items_done item text column next rest front total is so_far =
    let whole : List Shape → Result (List Shape) Fault = λ xs. Ok xs in
    sym so_far
    ∙ ap (λ (n : Option Line). with_front front (items_of item (sequence_entries column (rows text (lines_from n rest))))) is
    ∙ ap (λ (es : List Entry). with_front front (items_of item es)) (no_sequence_entries column)
    ∙ ap whole (append-nil front)

-- ---- pairs

-- two lists of keys have the same keys
abbrev pub SameKeys : List Content → List Content → Type 0
SameKeys keys others = (k : Content) → list_any (same_key k) keys ≡ list_any (same_key k) others

-- the keys are those of a list and one more
abbrev pub OneMore : List Content → Content → List Content → Type 0
OneMore keys key others = (k : Content) → list_any (same_key k) keys ≡ (same_key k key || list_any (same_key k) others)

-- what is read of an entry goes by which keys there are
abbrev pub GoesByKeys : (List Content → Entry → Result (Shape × Shape) Fault) → Type 0
GoesByKeys pair = (keys others : List Content) (e : Entry) → SameKeys keys others → pair keys e ≡ pair others e

pairs_alike : (pair : List Content → Entry → Result (Shape × Shape) Fault) → GoesByKeys pair → (es : List Entry) (keys others : List Content) → SameKeys keys others
    → pairs_of pair keys es ≡ pairs_of pair others es
pairs_alike pair goes [] keys others same = refl
pairs_alike pair goes (e ∷ es) keys others same =
    ap (λ (r : Result (Shape × Shape) Fault). r >>= λ p. pairs_of pair (content_of p.0 ∷ keys) es >>= λ ps. Ok (p ∷ ps)) (goes keys others e same)
    ∙ bind_alike (pair others e) _ _ (λ p.
    ap (λ (r : Result (List (Shape × Shape)) Fault). r >>= λ ps. Ok (p ∷ ps))
    (pairs_alike pair goes es (content_of p.0 ∷ keys) (content_of p.0 ∷ others) (λ k. ap (λ (b : Bool). same_key k (content_of p.0) || b) (same k))))

pairs_further : (pair : List Content → Entry → Result (Shape × Shape) Fault) → GoesByKeys pair → (e : Entry) (es : List Entry) (keys new : List Content) (front : List (Shape × Shape)) (p : Shape × Shape) (total : Result (List (Shape × Shape)) Fault)
    → OneMore new (content_of p.0) keys → pair keys e ≡ Ok p
    → with_front front (pairs_of pair keys (e ∷ es)) ≡ total → with_front (front ++ p ∷ []) (pairs_of pair new es) ≡ total
pairs_further pair goes e es keys new front p total more is so_far =
    let one : pairs_of pair keys (e ∷ es) ≡ (pairs_of pair (content_of p.0 ∷ keys) es >>= λ ps. Ok (p ∷ ps)) = rw is refl in
    ap (with_front (front ++ p ∷ [])) (pairs_alike pair goes es new (content_of p.0 ∷ keys) more)
    ∙ sym (regroup front p (pairs_of pair (content_of p.0 ∷ keys) es)) ∙ ap (with_front front) (sym one) ∙ so_far

pairs_stop : (pair : List Content → Entry → Result (Shape × Shape) Fault) (e : Entry) (es : List Entry) (keys : List Content) (front : List (Shape × Shape)) (f : Fault) (total : Result (List (Shape × Shape)) Fault)
    → pair keys e ≡ Err f → with_front front (pairs_of pair keys (e ∷ es)) ≡ total → total ≡ Err f
pairs_stop pair e es keys front f total is so_far =
    let one : pairs_of pair keys (e ∷ es) ≡ Err f = rw is refl in
    sym so_far ∙ ap (with_front front) one

map_entries_are : (text : List ℕ) (column : ℕ) (awaits : Bool) (next : Option Line) (first : Line) (rest mine after : List Line) → next ≡ Some first
    → awaits ≡ is_key_awaiting (row text first)
    → rows text mine ≡ take_while (belongs column awaits (rows text rest)) (rows text rest)
    → rows text after ≡ after_while (belongs column awaits (rows text rest)) (rows text rest)
    → map_entries column (rows text (lines_from next rest)) ≡ record { first = row text first; others = rows text mine } ∷ map_entries column (rows text after)
map_entries_are text column awaits next first rest mine after is waits p q =
    ap (λ (n : Option Line). map_entries column (rows text (lines_from n rest))) is
    ∙ map_more column (row text first) (rows text rest)
    ∙ ap (λ (b : Bool). record { first = row text first; others = take_while (belongs column b (rows text rest)) (rows text rest) } ∷ map_entries column (after_while (belongs column b (rows text rest)) (rows text rest))) (sym waits)
    ∙ ap (λ (rs : List Row). record { first = row text first; others = rs } ∷ map_entries column (after_while (belongs column awaits (rows text rest)) (rows text rest))) (sym p)
    ∙ ap (λ (rs : List Row). record { first = row text first; others = rows text mine } ∷ map_entries column rs) (sym q)

pub pairs_go_on : (pair : List Content → Entry → Result (Shape × Shape) Fault) → GoesByKeys pair
    → (text : List ℕ) (column : ℕ) (awaits : Bool) (next : Option Line) (first : Line) (rest mine after : List Line) (keys new : List Content) (front : List (Shape × Shape)) (p : Shape × Shape) (total : Result (List (Shape × Shape)) Fault)
    → next ≡ Some first
    → awaits ≡ is_key_awaiting (row text first)
    → rows text mine ≡ take_while (belongs column awaits (rows text rest)) (rows text rest)
    → rows text after ≡ after_while (belongs column awaits (rows text rest)) (rows text rest)
    → OneMore new (content_of p.0) keys
    → pair keys (record { first = row text first; others = rows text mine }) ≡ Ok p
    → with_front front (pairs_of pair keys (map_entries column (rows text (lines_from next rest)))) ≡ total
    → with_front (front ++ p ∷ []) (pairs_of pair new (map_entries column (rows text after))) ≡ total
pairs_go_on pair goes text column awaits next first rest mine after keys new front p total is waits m a more read so_far =
    pairs_further pair goes (record { first = row text first; others = rows text mine }) (map_entries column (rows text after)) keys new front p total more read
    (ap (λ (es : List Entry). with_front front (pairs_of pair keys es)) (sym (map_entries_are text column awaits next first rest mine after is waits m a)) ∙ so_far)

pub pairs_fail : (pair : List Content → Entry → Result (Shape × Shape) Fault) (text : List ℕ) (column : ℕ) (awaits : Bool) (next : Option Line) (first : Line) (rest mine after : List Line) (keys : List Content) (front : List (Shape × Shape)) (f : Fault) (total : Result (List (Shape × Shape)) Fault)
    → next ≡ Some first
    → awaits ≡ is_key_awaiting (row text first)
    → rows text mine ≡ take_while (belongs column awaits (rows text rest)) (rows text rest)
    → rows text after ≡ after_while (belongs column awaits (rows text rest)) (rows text rest)
    → pair keys (record { first = row text first; others = rows text mine }) ≡ Err f
    → with_front front (pairs_of pair keys (map_entries column (rows text (lines_from next rest)))) ≡ total
    → total ≡ Err f
pairs_fail pair text column awaits next first rest mine after keys front f total is waits m a read so_far =
    pairs_stop pair (record { first = row text first; others = rows text mine }) (map_entries column (rows text after)) keys front f total read
    (ap (λ (es : List Entry). with_front front (pairs_of pair keys es)) (sym (map_entries_are text column awaits next first rest mine after is waits m a)) ∙ so_far)

no_map_entries : (column : ℕ) → map_entries column [] ≡ []
unfolding map_entries
no_map_entries column = refl

pub pairs_done : (pair : List Content → Entry → Result (Shape × Shape) Fault) (text : List ℕ) (column : ℕ) (next : Option Line) (rest : List Line) (keys : List Content) (front : List (Shape × Shape)) (total : Result (List (Shape × Shape)) Fault)
    → next ≡ None → with_front front (pairs_of pair keys (map_entries column (rows text (lines_from next rest)))) ≡ total → total ≡ Ok front
pairs_done pair text column next rest keys front total is so_far =
    let whole : List (Shape × Shape) → Result (List (Shape × Shape)) Fault = λ ps. Ok ps in
    sym so_far
    ∙ ap (λ (n : Option Line). with_front front (pairs_of pair keys (map_entries column (rows text (lines_from n rest))))) is
    ∙ ap (λ (es : List Entry). with_front front (pairs_of pair keys es)) (no_map_entries column)
    ∙ ap whole (append-nil front)

-- ---- one pair

new_key_alike : (keys others : List Content) (r : Row) → SameKeys keys others → new_key_of keys r ≡ new_key_of others r
new_key_alike keys others r same =
    bind_alike (key_of r) _ _ (λ key. ap (λ (b : Bool). if b then at_row r kinds.DuplicateKey else Ok key) (same key))

key_alike : (column : ℕ) (is_root : Bool) (keys others : List Content) (r : Row) → SameKeys keys others → key_at column is_root keys r ≡ key_at column is_root others r
key_alike column is_root keys others r same =
    ap (λ (read : Result Content Fault).
    if not (r.column == column) then no_entry is_root r
    else if not (begins_key r.content) then at_row r (wrong_key r.content)
    else if not (is_some (behind_key r.content)) then no_entry is_root r
    else read) (new_key_alike keys others r same)

pub pair_goes_by_keys : (block : Block) (depth column : ℕ) (is_root : Bool) → GoesByKeys (pair_of block depth column is_root)
pair_goes_by_keys block depth column is_root keys others e same =
    ap (λ (read : Result Content Fault). read >>= λ key. value_of_entry block depth e >>= λ v. Ok (node e.first.number None key, v)) (key_alike column is_root keys others e.first same)

pub pair_is : (block : Block) (depth column : ℕ) (is_root : Bool) (keys : List Content) (e : Entry) (key : Content) (v : Shape) → key_at column is_root keys e.first ≡ Ok key → value_of_entry block depth e ≡ Ok v
    → pair_of block depth column is_root keys e ≡ Ok (node e.first.number None key, v)
pair_is block depth column is_root keys e key v first second =
    ap (λ (read : Result Content Fault). read >>= λ key. value_of_entry block depth e >>= λ v. Ok (node e.first.number None key, v)) first
    ∙ ap (λ (read : Result Shape Fault). read >>= λ v. Ok (node e.first.number None key, v)) second

pub key_fails : (block : Block) (depth column : ℕ) (is_root : Bool) (keys : List Content) (e : Entry) (f : Fault) → key_at column is_root keys e.first ≡ Err f → pair_of block depth column is_root keys e ≡ Err f
key_fails block depth column is_root keys e f first =
    ap (λ (read : Result Content Fault). read >>= λ key. value_of_entry block depth e >>= λ v. Ok (node e.first.number None key, v)) first

pub value_fails : (block : Block) (depth column : ℕ) (is_root : Bool) (keys : List Content) (e : Entry) (key : Content) (f : Fault) → key_at column is_root keys e.first ≡ Ok key → value_of_entry block depth e ≡ Err f
    → pair_of block depth column is_root keys e ≡ Err f
value_fails block depth column is_root keys e key f first second =
    ap (λ (read : Result Content Fault). read >>= λ key. value_of_entry block depth e >>= λ v. Ok (node e.first.number None key, v)) first
    ∙ ap (λ (read : Result Shape Fault). read >>= λ v. Ok (node e.first.number None key, v)) second

-- ---- one item

pub behind_first : (bytes : List ℕ) → 1 ≤ length bytes → take (length bytes - 1) (drop 1 bytes) ≡ drop 1 bytes
behind_first [] some = absurd (omega (arith, some))
behind_first (b ∷ bs) some =
    let size : suc (length bs) - 1 ≡ length bs = omega arith in
    ap (λ n. take n bs) size ∙ take-length bs

pub item_is : (depth column : ℕ) (is_root : Bool) (e : Entry) (behind : Row) (bytes : List ℕ) (result : Result Node (Stop Fault)) → e.first.column ≡ column → is_dash e.first.content ≡ true
    → behind ≡ behind_dash e.first → bytes ≡ behind.content
    → Gives shape_of result (value_with (block_at depth) depth false untagged true behind e.others bytes)
    → Gives shape_of result (item_of (block_at depth) depth column is_root e)
item_is depth column is_root e behind bytes result same dash is by gives =
    let read = λ (r : Row) (bs : List ℕ). value_with (block_at depth) depth false untagged true r e.others bs in
    let test : (e.first.column == column) ≡ true = grind (arith, nat_tests, same) in
    let first : item_of (block_at depth) depth column is_root e ≡ (if is_dash e.first.content then read (behind_dash e.first) (behind_dash e.first).content else no_entry is_root e.first) =
    ap (λ (b : Bool). if b && is_dash e.first.content then read (behind_dash e.first) (behind_dash e.first).content else no_entry is_root e.first) test in
    let whole : item_of (block_at depth) depth column is_root e ≡ read behind bytes =
    first
    ∙ ap (λ (b : Bool). if b then read (behind_dash e.first) (behind_dash e.first).content else no_entry is_root e.first) dash
    ∙ sym (ap (read behind) (by ∙ ap (λ (r : Row). r.content) is) ∙ ap (λ (r : Row). read r (behind_dash e.first).content) is) in
    subst (λ (r : Result Shape Fault). Gives shape_of result r) (sym whole) gives
