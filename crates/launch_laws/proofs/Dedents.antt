-- A row left of a root's map or sequence ends it: what stands before that row is read as if the row weren't there.
use Rattle.std.proofs.Common.{◌≡◌, ℕ, suc, ◌<◌, ◌==◌, ◌&&◌, ◌||◌, Bool, true, false, cond, if◌then◌else◌, List, [], ◌∷◌, ◌++◌, Result, Ok, Err, refl, sym, ap, ◌∙◌, arith}
use Rattle.std.specs.List.{take_while}
use Rattle.std.proofs.lemmas.Bool.Decides.{nat_tests}
use Rattle.std.proofs.lemmas.List.Sums.{take_while-cons}
use Rattle.launch_scalars.specs.declared.kind.YamlKind.TheVariants as kinds
use Rattle.launch_values.specs.Shape.{Shape, Content, mapping, sequence, of_list, of_pairs, content_of}
use Rattle.launch_lines.specs.declared.fault.Fault.{Fault}
use Rattle.lists.specs.Results.{◌>>=◌}
use Rattle.launch_lines.specs.Rows.{Row, is_dash, is_open}
use Rattle.launch_yaml.specs.Entries.{Entry, is_deeper, is_item_at, begins_with_item_at, belongs_there, belongs, entries_after, never, is_key_awaiting, map_entries, sequence_entries}
use Rattle.launch_yaml.specs.Blocks.{Block, item_of, items_of, pair_of, pairs_of, items_at, pairs_at, block_at}

-- the fault of such a row
abbrev pub end_of : Row → Fault
end_of d = record { line = d.number; column = d.column; kind = kinds.End }

-- ---- the entries before it

no_item : (column : ℕ) (d : Row) → d.column < column → is_item_at column d ≡ false
no_item column d left = by_test ((d.column == column)) (grind (arith, nat_tests, left))
  where
    by_test : (b : Bool) → b ≡ false → (b && is_dash d.content) ≡ false
    by_test false e = refl
    by_test true e = absurd cc

not_deeper : (column : ℕ) (d : Row) → d.column < column → is_deeper column d ≡ false
not_deeper column d left = grind (arith, nat_tests, left)

stays_out : (column : ℕ) (awaits : Bool) (rows : List Row) (d : Row) → d.column < column → belongs column awaits rows d ≡ false
stays_out column awaits rows d left =
    let items = awaits && begins_with_item_at column rows in
    ap (λ (b : Bool). b || (items && is_item_at column d)) (not_deeper column d left) ∙ ap (λ (b : Bool). items && b) (no_item column d left) ∙ none items
  where
    none : (b : Bool) → (b && false) ≡ false
    none true = refl
    none false = refl

items_before : (column : ℕ) (rs more : List Row) (d : Row) → d.column < column → begins_with_item_at column (rs ++ d ∷ more) ≡ begins_with_item_at column rs
items_before column [] more d left =
    ap (λ (b : Bool). b || (is_deeper column d && is_open d.content && begins_with_item_at column more)) (no_item column d left)
    ∙ ap (λ (b : Bool). b && is_open d.content && begins_with_item_at column more) (not_deeper column d left)
items_before column (r ∷ rs) more d left =
    ap (λ (b : Bool). is_item_at column r || (is_deeper column r && is_open r.content && b)) (items_before column rs more d left)

taken_before : (test : Row → Bool) (rs more : List Row) (d : Row) → test d ≡ false → take_while test (rs ++ d ∷ more) ≡ take_while test rs
taken_before test [] more d out = take_while-cons test d more ∙ ap (λ (b : Bool). cond b (d ∷ take_while test more) []) out
taken_before test (r ∷ rs) more d out =
    take_while-cons test r (rs ++ d ∷ more)
    ∙ ap (λ (xs : List Row). cond (test r) (r ∷ xs) []) (taken_before test rs more d out)
    ∙ sym (take_while-cons test r rs)

-- what belongs to an entry, where the rows behind its first one go on with d or don't
belongs_before : (column : ℕ) (awaits : Bool) (rs more : List Row) (d : Row) → d.column < column → belongs column awaits (rs ++ d ∷ more) ≡ belongs column awaits rs
belongs_before column awaits rs more d left = ap (λ (b : Bool). belongs_there column (awaits && b)) (items_before column rs more d left)

-- the entry that the row heads, and those behind it
pub record Entries (column : ℕ) (awaits before : Row → Bool) (rs more : List Row) (d : Row) : Type 0 where
  pub others : List Row
  pub behind : List Entry
  pub same : entries_after column awaits before (rs ++ d ∷ more) ≡ entries_after column awaits before rs ++ record { first = d; others = others } ∷ behind

entries_before : (column : ℕ) (awaits before : Row → Bool) (rs more : List Row) (d : Row) → d.column < column → before d ≡ false → Entries column awaits before rs more d
entries_before column awaits before [] more d left out = record {
  others = take_while (belongs column (awaits d) more) more;
  behind = entries_after column awaits (belongs column (awaits d) more) more;
  same = ap (λ (b : Bool). if b then entries_after column awaits before more
      else record { first = d; others = take_while (belongs column (awaits d) more) more } ∷ entries_after column awaits (belongs column (awaits d) more) more) out;
}
entries_before column awaits before (r ∷ rs) more d left out = by_test (before r) (entries_before column awaits before rs more d left out)
    (entries_before column awaits (belongs column (awaits r) rs) rs more d left (stays_out column (awaits r) rs d left)) refl
  where
    heads : (Row → Bool) → List Row → List Row → List Entry
    heads test tail after = record { first = r; others = take_while test tail } ∷ entries_after column awaits test after

    by_test : (t : Bool) → Entries column awaits before rs more d → Entries column awaits (belongs column (awaits r) rs) rs more d → before r ≡ t → Entries column awaits before (r ∷ rs) more d
    by_test true skipped headed is = record {
      others = skipped.others;
      behind = skipped.behind;
      same = rw is skipped.same;
    }
    by_test false skipped headed is =
        let test = belongs column (awaits r) rs in
        let one : entries_after column awaits before (r ∷ rs ++ d ∷ more) ≡ heads test (rs ++ d ∷ more) (rs ++ d ∷ more) =
        ap (λ (b : Bool). if b then entries_after column awaits before (rs ++ d ∷ more) else heads (belongs column (awaits r) (rs ++ d ∷ more)) (rs ++ d ∷ more) (rs ++ d ∷ more)) is
        ∙ ap (λ (f : Row → Bool). heads f (rs ++ d ∷ more) (rs ++ d ∷ more)) (belongs_before column (awaits r) rs more d left) in
        let two : entries_after column awaits before (r ∷ rs) ≡ heads test rs rs =
        ap (λ (b : Bool). if b then entries_after column awaits before rs else heads test rs rs) is in
        let entry : List Row → Entry = λ xs. record { first = r; others = xs } in
        record {
          others = headed.others;
          behind = headed.behind;
          same =
              one
              ∙ ap (λ (xs : List Row). entry xs ∷ entries_after column awaits test (rs ++ d ∷ more)) (taken_before test rs more d (stays_out column (awaits r) rs d left))
              ∙ ap (λ (es : List Entry). entry (take_while test rs) ∷ es) headed.same
              ∙ sym (ap (λ (es : List Entry). es ++ record { first = d; others = headed.others } ∷ headed.behind) two);
        }

-- ---- what is read of them

-- what was read, and a fault behind it
abbrev pub then_fault : {A B : Type 0} → Result A Fault → Fault → Result B Fault
then_fault read f = read >>= λ x. Err f

items_before_fault : (item : Entry → Result Shape Fault) (es behind : List Entry) (e : Entry) (f : Fault) → item e ≡ Err f → items_of item (es ++ e ∷ behind) ≡ then_fault (items_of item es) f
items_before_fault item [] behind e f is = ap (λ (r : Result Shape Fault). r >>= λ x. items_of item behind >>= λ xs. Ok (x ∷ xs)) is
items_before_fault item (x ∷ es) behind e f is = by_item (item x) (items_before_fault item es behind e f is)
  where
    by_more : (s : Shape) (r t : Result (List Shape) Fault) → r ≡ then_fault t f → (r >>= λ xs. Ok (s ∷ xs)) ≡ then_fault (t >>= λ xs. Ok (s ∷ xs)) f
    by_more s r (Ok xs) h = ap (λ (q : Result (List Shape) Fault). q >>= λ xs. Ok (s ∷ xs)) h
    by_more s r (Err g) h = ap (λ (q : Result (List Shape) Fault). q >>= λ xs. Ok (s ∷ xs)) h

    by_item : (r : Result Shape Fault) → items_of item (es ++ e ∷ behind) ≡ then_fault (items_of item es) f
        → (r >>= λ s. items_of item (es ++ e ∷ behind) >>= λ xs. Ok (s ∷ xs)) ≡ then_fault (r >>= λ s. items_of item es >>= λ xs. Ok (s ∷ xs)) f
    by_item (Err g) h = refl
    by_item (Ok s) h = by_more s (items_of item (es ++ e ∷ behind)) (items_of item es) h

pairs_before_fault : (pair : List Content → Entry → Result (Shape × Shape) Fault) (keys : List Content) (es behind : List Entry) (e : Entry) (f : Fault) → ((ks : List Content) → pair ks e ≡ Err f)
    → pairs_of pair keys (es ++ e ∷ behind) ≡ then_fault (pairs_of pair keys es) f
pairs_before_fault pair keys [] behind e f is = ap (λ (r : Result (Shape × Shape) Fault). r >>= λ p. pairs_of pair (content_of p.0 ∷ keys) behind >>= λ ps. Ok (p ∷ ps)) (is keys)
pairs_before_fault pair keys (x ∷ es) behind e f is = by_pair (pair keys x) (λ ks. pairs_before_fault pair ks es behind e f is)
  where
    by_more : (p : Shape × Shape) (r t : Result (List (Shape × Shape)) Fault) → r ≡ then_fault t f → (r >>= λ ps. Ok (p ∷ ps)) ≡ then_fault (t >>= λ ps. Ok (p ∷ ps)) f
    by_more p r (Ok ps) h = ap (λ (q : Result (List (Shape × Shape)) Fault). q >>= λ ps. Ok (p ∷ ps)) h
    by_more p r (Err g) h = ap (λ (q : Result (List (Shape × Shape)) Fault). q >>= λ ps. Ok (p ∷ ps)) h

    by_pair : (r : Result (Shape × Shape) Fault) → ((ks : List Content) → pairs_of pair ks (es ++ e ∷ behind) ≡ then_fault (pairs_of pair ks es) f)
        → (r >>= λ p. pairs_of pair (content_of p.0 ∷ keys) (es ++ e ∷ behind) >>= λ ps. Ok (p ∷ ps)) ≡ then_fault (r >>= λ p. pairs_of pair (content_of p.0 ∷ keys) es >>= λ ps. Ok (p ∷ ps)) f
    by_pair (Err g) h = refl
    by_pair (Ok p) h = by_more p (pairs_of pair (content_of p.0 ∷ keys) (es ++ e ∷ behind)) (pairs_of pair (content_of p.0 ∷ keys) es) (h (content_of p.0 ∷ keys))

other_column : (column : ℕ) (d : Row) → d.column < column → (d.column == column) ≡ false
other_column column d left = grind (arith, nat_tests, left)

item_fails : (inner : Block) (depth column : ℕ) (e : Entry) → e.first.column < column → item_of inner depth column true e ≡ Err (end_of e.first)
item_fails inner depth column e left = rw (other_column column e.first left) refl

pair_fails : (inner : Block) (depth column : ℕ) (keys : List Content) (e : Entry) → e.first.column < column → pair_of inner depth column true keys e ≡ Err (end_of e.first)
pair_fails inner depth column keys e left = rw (other_column column e.first left) refl

wrap_fault : {A : Type 0} (read whole : Result A Fault) (wrap : A → Content) (f : Fault) → whole ≡ then_fault read f → (whole >>= λ x. Ok (wrap x)) ≡ then_fault (read >>= λ x. Ok (wrap x)) f
wrap_fault (Ok x) whole wrap f h = ap (λ r. r >>= λ y. Ok (wrap y)) h
wrap_fault (Err g) whole wrap f h = ap (λ r. r >>= λ y. Ok (wrap y)) h

-- the map or the sequence of a root that begins with r, before a row left of it
pub block_before : (depth : ℕ) (r : Row) (rs more : List Row) (d : Row) → d.column < r.column
    → block_at (suc depth) true r (rs ++ d ∷ more) ≡ then_fault (block_at (suc depth) true r rs) (end_of d)
unfolding block_at map_entries sequence_entries
block_before depth r rs more d left = by_dash (is_dash r.content)
  where
    items : List Row → Result (List Shape) Fault
    items = items_at (block_at depth) depth true r

    pairs : List Row → Result (List (Shape × Shape)) Fault
    pairs = pairs_at (block_at depth) depth true r

    of_items : items (rs ++ d ∷ more) ≡ then_fault (items rs) (end_of d)
    of_items =
        let item = item_of (block_at depth) depth r.column true in
        let es = entries_before r.column never never (r ∷ rs) more d left refl in
        ap (items_of item) es.same ∙ items_before_fault item (entries_after r.column never never (r ∷ rs)) es.behind (record { first = d; others = es.others }) (end_of d)
        (item_fails (block_at depth) depth r.column (record { first = d; others = es.others }) left)

    of_pairs_ : pairs (rs ++ d ∷ more) ≡ then_fault (pairs rs) (end_of d)
    of_pairs_ =
        let pair = pair_of (block_at depth) depth r.column true in
        let es = entries_before r.column is_key_awaiting never (r ∷ rs) more d left refl in
        ap (pairs_of pair []) es.same ∙ pairs_before_fault pair [] (entries_after r.column is_key_awaiting never (r ∷ rs)) es.behind (record { first = d; others = es.others }) (end_of d)
        (λ keys. pair_fails (block_at depth) depth r.column keys (record { first = d; others = es.others }) left)

    by_dash : (dash : Bool)
        → (if dash then (items (rs ++ d ∷ more) >>= λ xs. Ok (sequence (of_list xs))) else (pairs (rs ++ d ∷ more) >>= λ ps. Ok (mapping (of_pairs ps))))
        ≡ then_fault (if dash then (items rs >>= λ xs. Ok (sequence (of_list xs))) else (pairs rs >>= λ ps. Ok (mapping (of_pairs ps)))) (end_of d)
    by_dash true = wrap_fault (items rs) (items (rs ++ d ∷ more)) (λ xs. sequence (of_list xs)) (end_of d) of_items
    by_dash false = wrap_fault (pairs rs) (pairs (rs ++ d ∷ more)) (λ ps. mapping (of_pairs ps)) (end_of d) of_pairs_
