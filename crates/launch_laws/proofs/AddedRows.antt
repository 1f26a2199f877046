-- Rows that are added behind others: a fault stays, unless it is for what is missing, and a new one stands on an added row.
use Rattle.std.proofs.Common.{◌≡◌, ◌≢◌, ◌⊎◌, inl, inr, ℕ, zero, suc, ◌==◌, ◌&&◌, ◌||◌, not, Bool, true, false, cond, if◌then◌else◌, List, [], ◌∷◌, ◌++◌, codes, Option, Some, None, is_some, Result, Ok, Err, refl, sym, ap, subst, ◌∙◌}
use Rattle.std.specs.List.{take_while, AllByRecursion}
use Rattle.std.proofs.lemmas.List.Sums.{take_while-cons}
use Rattle.launch_scalars.specs.declared.kind.YamlKind.TheVariants as kinds
use Rattle.launch_scalars.specs.Spaces.{is_one_of, begins_with, after_gap}
use Rattle.launch_values.specs.Shape.{Shape, Content, node, mapping, sequence, of_list, of_pairs, content_of}
use Rattle.launch_values.specs.Flow.{value_at}
use Rattle.launch_lines.specs.declared.fault.Fault.{Fault}
use Rattle.lists.specs.Results.{◌>>=◌}
use Rattle.launch_lines.specs.Faults.{unless}
use Rattle.launch_lines.specs.Rows.{Row, is_dash, is_open, behind_key, after_key, at_row, in_row, is_start, is_stop, is_marker, is_directive}
use Rattle.launch_lines.specs.Views.{IsEndOf}
use Rattle.launch_yaml.specs.Entries.{Entry, is_deeper, is_item_at, begins_with_item_at, belongs_there, belongs, entries_after, never, is_key_awaiting, map_entries, sequence_entries, after_while}
use Rattle.launch_yaml.specs.Blocks.{Tagging, untagged, tagged, in_base64, is_untagged, mode_of, node_of, binary_place, tagging_at, text_behind, rows_behind, alone, Block, begins_block, value_in, tagged_value_in, value_below, value_with, behind_dash, item_of, items_of, key_at, value_of_entry, pair_of, pairs_of, block_at}
use Rattle.launch_yaml.specs.Document.{after_directive, is_inside, root_of, end_at, after_document, body_of, document_of}
use Rattle.launch_laws.specs.Laws.{EndsWithBinary, LacksStart}
use Rattle.launch_laws.proofs.TagRows.{after_while-cons}
use Rattle.launch_laws.proofs.BinaryEnds.{after_key_end, dash_binary, binary_read}
use Rattle.launch_laws.proofs.FaultPlaces.{OfFault, OfSome, OfRow, OfRows, OfEntries, EntryPlaced, unless_placed, then_placed, below_placed, blocks_placed, taken_all, left_all, entries_all, items_placed, item_placed, pairs_placed, pair_placed, end_placed, behind_placed, body_placed, document_placed}

-- ---- results

-- M holds of a fault that may go, since something is missing, and L of each fault of the added rows
abbrev pub Grows : {A : Type 0} → (Fault → Type 0) → (Fault → Type 0) → Result A Fault → Result A Fault → Type 0
Grows M L (Ok x) y = OfFault L y
Grows M L (Err e) y = (y ≡ Err e) ⊎ (M e × OfFault L y)

same_grows : {A : Type 0} (M L : Fault → Type 0) (x : Result A Fault) → Grows M L x x
same_grows M L (Ok a) = tt
same_grows M L (Err e) = inl refl

if_grows : {A : Type 0} (M L : Fault → Type 0) (test : Bool) (x y s t : Result A Fault) → (test ≡ true → Grows M L x s) → (test ≡ false → Grows M L y t)
    → Grows M L (if test then x else y) (if test then s else t)
if_grows M L true x y s t h k = h refl
if_grows M L false x y s t h k = k refl

unless_grows : {A : Type 0} (M L : Fault → Type 0) (o : Option Fault) (x y : Result A Fault) → Grows M L x y → Grows M L (unless o x) (unless o y)
unless_grows M L None x y h = h
unless_grows M L (Some f) x y h = inl refl

-- what comes first is the same
then_grows : {A B : Type 0} (M L : Fault → Type 0) (x : Result A Fault) (k l : A → Result B Fault) → ((a : A) → x ≡ Ok a → Grows M L (k a) (l a)) → Grows M L (x >>= k) (x >>= l)
then_grows M L (Ok a) k l h = h a refl
then_grows M L (Err f) k l h = inl refl

-- the fault itself, or one of the added rows
abbrev Either : (Fault → Type 0) → Fault → Fault → Type 0
Either L e f = (f ≡ e) ⊎ L f

-- what comes behind can't fail, and with the added rows only on those
last_grows : {A B : Type 0} (M L : Fault → Type 0) (wrap : A → B) (x y : Result A Fault) (l : A → Result B Fault) → Grows M L x y → ((a : A) → OfFault L (l a))
    → Grows M L (x >>= λ a. Ok (wrap a)) (y >>= l)
last_grows M L wrap (Ok a) (Ok b) l h k = k b
last_grows M L wrap (Ok a) (Err f) l h k = h
last_grows {A = A} M L wrap (Err e) y l h k = elim h [
  | inl p ↦ inl (ap (λ (r : Result A Fault). r >>= l) p)
  | inr p ↦ inr (p.0, later y p.1)
]
  where
    later : (y : Result A Fault) → OfFault L y → OfFault L (y >>= l)
    later (Ok b) q = k b
    later (Err f) q = q

wrap_grows : {A B : Type 0} (M L : Fault → Type 0) (wrap : A → B) (x y : Result A Fault) → Grows M L x y → Grows M L (x >>= λ a. Ok (wrap a)) (y >>= λ a. Ok (wrap a))
wrap_grows M L wrap x y h = last_grows M L wrap x y (λ a. Ok (wrap a)) h (λ a. tt)

-- ---- what may be missing

-- the last row may end with a `!!binary`
abbrev pub LastMay : (Fault → Type 0) → Row → List Row → Type 0
LastMay M r [] = (e : Fault) → EndsWithBinary r e → M e
LastMay M r (next ∷ rows) = LastMay M next rows

abbrev pub LastRowMay : (Fault → Type 0) → List Row → Type 0
LastRowMay M [] = Unit {0}
LastRowMay M (r ∷ rows) = LastMay M r rows

last_below : (M : Fault → Type 0) (r : Row) (rows : List Row) → LastMay M r rows → LastRowMay M rows
last_below M r [] h = tt
last_below M r (s ∷ rows) h = h

-- behind a `!!binary` no row may follow
abbrev MayLack : (Fault → Type 0) → List Row → Tagging → Type 0
MayLack M rows untagged = Unit {0}
MayLack M rows (tagged line name) = Unit {0}
MayLack M rows (in_base64 place) = rows ≡ [] → M place

-- something stands in each row
abbrev pub Filled : List Row → Type 0
Filled rows = AllByRecursion (λ r. r.content ≢ []) rows

read_may : (M : Fault → Type 0) (r : Row) (rows : List Row) (bytes : List ℕ) (u : Tagging × List ℕ) → IsEndOf r.content bytes → begins_with 33 bytes ≡ true → LastMay M r rows
    → tagging_at r bytes ≡ Ok u → u.1 ≡ [] → MayLack M rows u.0
read_may M r rows bytes u end is last p none = of_tagging u.0 refl
  where
    at_end : (rs : List Row) (place : Fault) → LastMay M r rs → u.0 ≡ in_base64 place → rs ≡ [] → M place
    at_end [] place h t e = h place (binary_read r bytes u place end is p none t)
    at_end (s ∷ rs) place h t e = absurd cc

    of_tagging : (t : Tagging) → u.0 ≡ t → MayLack M rows t
    of_tagging untagged t = tt
    of_tagging (tagged line name) t = tt
    of_tagging (in_base64 place) t = at_end rows place last t

dash_may : (M : Fault → Type 0) (r : Row) (rows : List Row) → LastMay M r rows → LastMay M (behind_dash r) rows
dash_may M r [] h = λ e ends. h e (dash_binary r e ends)
dash_may M r (next ∷ rows) h = h

-- ---- values

alone_grows : (M L : Fault → Type 0) (depth : ℕ) (is_root : Bool) (t : Tagging) (r : Row) (rows more : List Row) → OfRows L more → (bytes : List ℕ)
    → Grows M L (alone depth is_root t r rows bytes) (alone depth is_root t r (rows ++ more) bytes)
alone_grows M L depth is_root t r rows more far bytes =
    then_grows M L (in_row r (value_at depth r.number (mode_of t) bytes)) _ _ (λ v p. unless_grows M L (text_behind r (after_gap v.1)) _ _ (by_rows rows (node_of t r.number v.0)))
  where
    added : (rs : List Row) → OfRows L rs → OfSome L (rows_behind is_root r rs)
    added [] h = tt
    added (next ∷ rs) h = h.0 _ refl

    by_rows : (rs : List Row) (x : Shape) → Grows M L (unless (rows_behind is_root r rs) (Ok x)) (unless (rows_behind is_root r (rs ++ more)) (Ok x))
    by_rows [] x = unless_placed L (rows_behind is_root r more) (Ok x) (added more far) tt
    by_rows (next ∷ rs) x = inl refl

abbrev BlockGrows : (Fault → Type 0) → (Fault → Type 0) → Block → Type 0
BlockGrows M L block = (is_root : Bool) (r : Row) (rows more : List Row) → Filled rows → LastMay M r rows → OfRows L more → Grows M L (block is_root r rows) (block is_root r (rows ++ more))

abbrev BelowGrows : (Fault → Type 0) → (Fault → Type 0) → List Row → (Tagging → Result Shape Fault) → (Tagging → Result Shape Fault) → Type 0
BelowGrows M L rows below others = (t : Tagging) → MayLack M rows t → Grows M L (below t) (others t)

value_grows : (M L : Fault → Type 0) (block : Block) → BlockGrows M L block → (depth : ℕ) (is_root : Bool) (r : Row) (rows more : List Row) → Filled rows → LastMay M r rows → OfRows L more
    → (below others : Tagging → Result Shape Fault) → BelowGrows M L rows below others → (t : Tagging) (fresh : Bool) (bytes : List ℕ) → (bytes ≡ [] → MayLack M rows t)
    → Grows M L (value_in block depth is_root below t fresh r rows bytes) (value_in block depth is_root others t fresh r (rows ++ more) bytes)
value_grows M L block h depth is_root r rows more full last far below others k t fresh [] may = k t (may refl)
value_grows M L block h depth is_root r rows more full last far below others k t fresh (b ∷ bs) may =
    let line = alone_grows M L depth is_root t r rows more far (b ∷ bs) in
    if_grows M L (fresh && begins_block (b ∷ bs)) _ _ _ _
    (λ p. unless_grows M L (binary_place t) _ _ (wrap_grows M L (node_of t r.number) (block is_root r rows) (block is_root r (rows ++ more)) (h is_root r rows more full last far)))
    (λ p. if_grows M L (b == 33) _ _ _ _ (λ q. same_grows M L _) (λ q. if_grows M L (is_one_of (codes "[{") b) _ _ _ _ (λ s. unless_grows M L (binary_place t) _ _ line) (λ s. line)))

tagged_grows : (M L : Fault → Type 0) (block : Block) → BlockGrows M L block → (depth : ℕ) (is_root : Bool) (r : Row) (rows more : List Row) → Filled rows → LastMay M r rows → OfRows L more
    → (below others : Tagging → Result Shape Fault) → BelowGrows M L rows below others → (t : Tagging) (fresh : Bool) (bytes : List ℕ) → IsEndOf r.content bytes → (bytes ≡ [] → MayLack M rows t)
    → Grows M L (tagged_value_in block depth is_root below t fresh r rows bytes) (tagged_value_in block depth is_root others t fresh r (rows ++ more) bytes)
tagged_grows M L block h depth is_root r rows more full last far below others k t fresh bytes end may =
    let values = value_grows M L block h depth is_root r rows more full last far below others k in
    if_grows M L (is_untagged t && begins_with 33 bytes) _ _ _ _
    (λ is. then_grows M L (tagging_at r bytes) _ _ (λ u p. if_grows M L (is_some (behind_key u.1)) _ _ _ _ (λ q. inl refl)
    (λ q. values u.0 false u.1 (read_may M r rows bytes u end (second (is_untagged t) (begins_with 33 bytes) is) last p))))
    (λ is. values t fresh bytes may)
  where
    second : (a b : Bool) → (a && b) ≡ true → b ≡ true
    second true b p = p
    second false b p = absurd cc

below_grows : (M L : Fault → Type 0) (depth : ℕ) → BlockGrows M L (block_at depth) → (is_root : Bool) (number : ℕ) (rows more : List Row) → Filled rows → LastRowMay M rows → OfRows L more
    → BelowGrows M L rows (value_below (block_at depth) depth is_root number rows) (value_below (block_at depth) depth is_root number (rows ++ more))
below_grows M L depth h is_root number [] more full last far untagged may = below_placed L (block_at depth) (blocks_placed L depth) depth is_root number more far untagged tt
below_grows M L depth h is_root number [] more full last far (tagged line name) may = below_placed L (block_at depth) (blocks_placed L depth) depth is_root number more far (tagged line name) tt
below_grows M L depth h is_root number [] more full last far (in_base64 place) may =
    of_both (value_below (block_at depth) depth is_root number more (in_base64 place))
    (below_placed (Either L place) (block_at depth) (blocks_placed (Either L place) depth) depth is_root number more (far_either more far) (in_base64 place) (inl refl))
  where
    far_either : (rs : List Row) → OfRows L rs → OfRows (Either L place) rs
    far_either [] q = tt
    far_either (r ∷ rs) q = ((λ e p. inr (q.0 e p)), far_either rs q.1)

    failed : Fault → Result Shape Fault
    failed e = Err e

    of_both : (y : Result Shape Fault) → OfFault (Either L place) y → (y ≡ Err place) ⊎ (M place × OfFault L y)
    of_both (Ok x) q = inr (may refl, tt)
    of_both (Err f) (inl p) = inl (ap failed p)
    of_both (Err f) (inr p) = inr (may refl, p)
below_grows M L depth h is_root number (r ∷ rows) more full last far t may =
    tagged_grows M L (block_at depth) h depth is_root r rows more full.1 last far (value_below (block_at depth) depth is_root r.number rows) (value_below (block_at depth) depth is_root r.number (rows ++ more))
    (below_grows M L depth h is_root r.number rows more full.1 (last_below M r rows last) far) t true r.content ([], refl) (λ e. absurd (full.0 e))

with_grows : (M L : Fault → Type 0) (depth : ℕ) → BlockGrows M L (block_at depth) → (is_root fresh : Bool) (r : Row) (rows more : List Row) → Filled rows → LastMay M r rows → OfRows L more
    → (bytes : List ℕ) → IsEndOf r.content bytes
    → Grows M L (value_with (block_at depth) depth is_root untagged fresh r rows bytes) (value_with (block_at depth) depth is_root untagged fresh r (rows ++ more) bytes)
with_grows M L depth h is_root fresh r rows more full last far bytes end =
    tagged_grows M L (block_at depth) h depth is_root r rows more full last far (value_below (block_at depth) depth is_root r.number rows) (value_below (block_at depth) depth is_root r.number (rows ++ more))
    (below_grows M L depth h is_root r.number rows more full (last_below M r rows last) far) untagged fresh bytes end (λ e. tt)

-- ---- entries

-- the second entries are the first, of which the last may have added rows, and behind them stand further ones of added rows
abbrev Grown : (Fault → Type 0) → (Fault → Type 0) → List Entry → List Entry → Type 0
Grown M L [] fs = OfEntries (OfRow L) fs
Grown M L (e ∷ es) [] = ⊥
Grown M L (e ∷ es) (f ∷ fs) =
    ((f ≡ e) × Grown M L es fs)
    ⊎ ((es ≡ []) × (extra : List Row) × (f ≡ record { first = e.first; others = e.others ++ extra }) × Filled e.others × LastMay M e.first e.others × OfRows L extra × OfEntries (OfRow L) fs)

abbrev AreDeeper : ℕ → List Row → Type 0
AreDeeper column rows = AllByRecursion (λ r. is_deeper column r ≡ true) rows

scanned : (column : ℕ) (rows more : List Row) → (begins_with_item_at column (rows ++ more) ≡ begins_with_item_at column rows) ⊎ AreDeeper column rows
scanned column [] more = inr tt
scanned column (r ∷ rows) more = by_tests (is_item_at column r) (is_deeper column r) (is_open r.content) refl (scanned column rows more)
  where
    by_tests : (a b c : Bool) → is_deeper column r ≡ b → (begins_with_item_at column (rows ++ more) ≡ begins_with_item_at column rows) ⊎ AreDeeper column rows
        → ((a || (b && c && begins_with_item_at column (rows ++ more))) ≡ (a || (b && c && begins_with_item_at column rows))) ⊎ AreDeeper column (r ∷ rows)
    by_tests true b c is s = inl refl
    by_tests false false c is s = inl refl
    by_tests false true false is s = inl refl
    by_tests false true true is (inl e) = inl e
    by_tests false true true is (inr all) = inr (is, all)

-- the tests agree on the rows
abbrev Agree : (Row → Bool) → (Row → Bool) → List Row → Type 0
Agree p q rows = AllByRecursion (λ r. q r ≡ p r) rows

belongs_agree : (column : ℕ) (awaits : Bool) (rows more : List Row) → Agree (belongs column awaits rows) (belongs column awaits (rows ++ more)) rows
belongs_agree column awaits rows more = elim (scanned column rows more) [
  | inl e ↦ alike (ap (λ (b : Bool). belongs_there column (awaits && b)) e) rows
  | inr all ↦ deeper rows all
]
  where
    alike : (belongs column awaits (rows ++ more) ≡ belongs column awaits rows) → (rs : List Row) → Agree (belongs column awaits rows) (belongs column awaits (rows ++ more)) rs
    alike e [] = tt
    alike e (r ∷ rs) = (ap (λ (p : Row → Bool). p r) e, alike e rs)

    deeper : (rs : List Row) → AreDeeper column rs → Agree (belongs column awaits rows) (belongs column awaits (rows ++ more)) rs
    deeper [] h = tt
    deeper (r ∷ rs) h = (
      ap (λ (b : Bool). b || ((awaits && begins_with_item_at column (rows ++ more)) && is_item_at column r)) h.0
          ∙ sym (ap (λ (b : Bool). b || ((awaits && begins_with_item_at column rows) && is_item_at column r)) h.0),
      deeper rs h.1,
    )

-- the rows taken stay, or all were, and then some of the added ones are taken too
abbrev Taken : (p q : Row → Bool) → List Entry → (rows more : List Row) → Type 0
Taken p q es rows more =
    (take_while q (rows ++ more) ≡ take_while p rows) ⊎ ((es ≡ []) × (take_while p rows ≡ rows) × (take_while q (rows ++ more) ≡ take_while p rows ++ take_while q more))

taken_grows : (column : ℕ) (awaits p q : Row → Bool) (rows more : List Row) → Agree p q rows → Taken p q (entries_after column awaits p rows) rows more
taken_grows column awaits p q [] more h = inr (refl, refl, refl)
taken_grows column awaits p q (r ∷ rows) more h = by_test (p r) refl (taken_grows column awaits p q rows more h.1)
  where
    heads : List Entry
    heads = record { first = r; others = take_while (belongs column (awaits r) rows) rows } ∷ entries_after column awaits (belongs column (awaits r) rows) rows

    whole : (b : Bool) → p r ≡ b → take_while q (r ∷ rows ++ more) ≡ cond b (r ∷ take_while q (rows ++ more)) []
    whole b is = take_while-cons q r (rows ++ more) ∙ ap (λ (t : Bool). cond t (r ∷ take_while q (rows ++ more)) []) (h.0 ∙ is)

    part : (b : Bool) → p r ≡ b → take_while p (r ∷ rows) ≡ cond b (r ∷ take_while p rows) []
    part b is = take_while-cons p r rows ∙ ap (λ (t : Bool). cond t (r ∷ take_while p rows) []) is

    by_test : (b : Bool) → p r ≡ b → Taken p q (entries_after column awaits p rows) rows more → Taken p q (entries_after column awaits p (r ∷ rows)) (r ∷ rows) more
    by_test true is (inl e) = inl (whole true is ∙ ap (λ (xs : List Row). r ∷ xs) e ∙ sym (part true is))
    by_test true is (inr e) = inr (
      ap (λ (t : Bool). if t then entries_after column awaits p rows else heads) is ∙ e.0,
      part true is ∙ ap (λ (xs : List Row). r ∷ xs) e.1,
      whole true is ∙ ap (λ (xs : List Row). r ∷ xs) e.2 ∙ sym (ap (λ (xs : List Row). xs ++ take_while q more) (part true is)),
    )
    by_test false is s = inl (whole false is ∙ sym (part false is))

-- something stands in each row behind the first
abbrev FilledBehind : List Row → Type 0
FilledBehind [] = Unit {0}
FilledBehind (r ∷ rows) = Filled rows

behind_filled : (rows : List Row) → Filled rows → FilledBehind rows
behind_filled [] h = tt
behind_filled (r ∷ rows) h = h.1

entries_grow : (M L : Fault → Type 0) (column : ℕ) (awaits p q : Row → Bool) (rows more : List Row) → Agree p q rows → FilledBehind rows → LastRowMay M rows → OfRows L more
    → Grown M L (entries_after column awaits p rows) (entries_after column awaits q (rows ++ more))
entries_grow M L column awaits p q [] more h full last far = entries_all (OfRow L) column awaits q more far
entries_grow M L column awaits p q (r ∷ rows) more h full last far = by_test (p r) refl (entries_grow M L column awaits p q rows more h.1 (behind_filled rows full) (last_below M r rows last) far)
    (entries_grow M L column awaits test more_test rows more agree (behind_filled rows full) (last_below M r rows last) far)
  where
    test : Row → Bool
    test = belongs column (awaits r) rows

    more_test : Row → Bool
    more_test = belongs column (awaits r) (rows ++ more)

    agree : Agree test more_test rows
    agree = belongs_agree column (awaits r) rows more

    entry : List Row → Entry
    entry xs = record { first = r; others = xs }

    heads : List Row → List Entry
    heads tail = entry (take_while (belongs column (awaits r) tail) tail) ∷ entries_after column awaits (belongs column (awaits r) tail) tail

    grown : Grown M L (entries_after column awaits test rows) (entries_after column awaits more_test (rows ++ more)) → Grown M L (heads rows) (heads (rows ++ more))
    grown k = elim (taken_grows column awaits test more_test rows more agree) [
      | inl e ↦ inl (ap entry e, k)
      | inr e ↦ inr (
        e.0,
        take_while more_test more,
        ap entry e.2,
        taken_all (λ (s : Row). s.content ≢ []) test rows full,
        subst (LastMay M r) (sym e.1) last,
        taken_all (OfRow L) more_test more far,
        subst (λ (es : List Entry). Grown M L es (entries_after column awaits more_test (rows ++ more))) e.0 k,
      )
    ]

    by_test : (b : Bool) → p r ≡ b → Grown M L (entries_after column awaits p rows) (entries_after column awaits q (rows ++ more))
        → Grown M L (entries_after column awaits test rows) (entries_after column awaits more_test (rows ++ more))
        → Grown M L (entries_after column awaits p (r ∷ rows)) (entries_after column awaits q (r ∷ rows ++ more))
    by_test true is s k =
        subst (λ (t : Bool). Grown M L (if t then entries_after column awaits p rows else heads rows) (entries_after column awaits q (r ∷ rows ++ more))) (sym is)
        (subst (λ (t : Bool). Grown M L (entries_after column awaits p rows) (if t then entries_after column awaits q (rows ++ more) else heads (rows ++ more))) (sym (h.0 ∙ is)) s)
    by_test false is s k =
        subst (λ (t : Bool). Grown M L (if t then entries_after column awaits p rows else heads rows) (entries_after column awaits q (r ∷ rows ++ more))) (sym is)
        (subst (λ (t : Bool). Grown M L (heads rows) (if t then entries_after column awaits q (rows ++ more) else heads (rows ++ more))) (sym (h.0 ∙ is)) (grown k))

-- ---- what is read of entries

-- what is read of an entry grows with its rows
abbrev EntryGrows : {A : Type 0} → (Fault → Type 0) → (Fault → Type 0) → (Entry → Result A Fault) → Type 0
EntryGrows M L read =
    (x : Entry) (extra : List Row) → Filled x.others → LastMay M x.first x.others → OfRows L extra → Grows M L (read x) (read (record { first = x.first; others = x.others ++ extra }))

items_grow : (M L : Fault → Type 0) (item : Entry → Result Shape Fault) → EntryGrows M L item → EntryPlaced L item → (es fs : List Entry) → Grown M L es fs
    → Grows M L (items_of item es) (items_of item fs)
items_grow M L item h placed [] fs g = items_placed L item placed fs g
items_grow M L item h placed (x ∷ es) [] g = absurd g
items_grow M L item h placed (x ∷ es) (y ∷ fs) (inl g) =
    subst (λ (z : Entry). Grows M L (items_of item (x ∷ es)) (items_of item (z ∷ fs))) (sym g.0)
    (then_grows M L (item x) (λ s. items_of item es >>= λ xs. Ok (s ∷ xs)) (λ s. items_of item fs >>= λ xs. Ok (s ∷ xs))
    (λ s q. wrap_grows M L (λ (xs : List Shape). s ∷ xs) (items_of item es) (items_of item fs) (items_grow M L item h placed es fs g.1)))
items_grow M L item h placed (x ∷ es) (y ∷ fs) (inr g) =
    let longer : Entry = record { first = x.first; others = x.others ++ g.1 } in
    subst (λ (zs : List Entry). Grows M L (items_of item (x ∷ zs)) (items_of item (y ∷ fs))) (sym g.0)
    (subst (λ (z : Entry). Grows M L (items_of item (x ∷ [])) (items_of item (z ∷ fs))) (sym g.2)
    (last_grows M L (λ (s : Shape). s ∷ []) (item x) (item longer) (λ s. items_of item fs >>= λ xs. Ok (s ∷ xs)) (h x g.1 g.3 g.4 g.5)
    (λ s. then_placed L (items_of item fs) (λ xs. Ok (s ∷ xs)) (items_placed L item placed fs g.6) (λ xs q. tt))))

pairs_grow : (M L : Fault → Type 0) (pair : List Content → Entry → Result (Shape × Shape) Fault) → ((keys : List Content) → EntryGrows M L (pair keys)) → ((keys : List Content) → EntryPlaced L (pair keys))
    → (keys : List Content) (es fs : List Entry) → Grown M L es fs → Grows M L (pairs_of pair keys es) (pairs_of pair keys fs)
pairs_grow M L pair h placed keys [] fs g = pairs_placed L pair placed keys fs g
pairs_grow M L pair h placed keys (x ∷ es) [] g = absurd g
pairs_grow M L pair h placed keys (x ∷ es) (y ∷ fs) (inl g) =
    subst (λ (z : Entry). Grows M L (pairs_of pair keys (x ∷ es)) (pairs_of pair keys (z ∷ fs))) (sym g.0)
    (then_grows M L (pair keys x) (λ s. pairs_of pair (content_of s.0 ∷ keys) es >>= λ xs. Ok (s ∷ xs)) (λ s. pairs_of pair (content_of s.0 ∷ keys) fs >>= λ xs. Ok (s ∷ xs))
    (λ s q. wrap_grows M L (λ (xs : List (Shape × Shape)). s ∷ xs) (pairs_of pair (content_of s.0 ∷ keys) es) (pairs_of pair (content_of s.0 ∷ keys) fs)
    (pairs_grow M L pair h placed (content_of s.0 ∷ keys) es fs g.1)))
pairs_grow M L pair h placed keys (x ∷ es) (y ∷ fs) (inr g) =
    let longer : Entry = record { first = x.first; others = x.others ++ g.1 } in
    subst (λ (zs : List Entry). Grows M L (pairs_of pair keys (x ∷ zs)) (pairs_of pair keys (y ∷ fs))) (sym g.0)
    (subst (λ (z : Entry). Grows M L (pairs_of pair keys (x ∷ [])) (pairs_of pair keys (z ∷ fs))) (sym g.2)
    (last_grows M L (λ (s : Shape × Shape). s ∷ []) (pair keys x) (pair keys longer) (λ s. pairs_of pair (content_of s.0 ∷ keys) fs >>= λ xs. Ok (s ∷ xs)) (h keys x g.1 g.3 g.4 g.5)
    (λ s. then_placed L (pairs_of pair (content_of s.0 ∷ keys) fs) (λ xs. Ok (s ∷ xs)) (pairs_placed L pair placed (content_of s.0 ∷ keys) fs g.6) (λ xs q. tt))))

item_grows : (M L : Fault → Type 0) (depth : ℕ) → BlockGrows M L (block_at depth) → (column : ℕ) (is_root : Bool) → EntryGrows M L (item_of (block_at depth) depth column is_root)
item_grows M L depth h column is_root x extra full last far =
    if_grows M L ((x.first.column == column) && is_dash x.first.content) _ _ _ _
    (λ p. with_grows M L depth h false true (behind_dash x.first) x.others extra full (dash_may M x.first x.others last) far (behind_dash x.first).content ([], refl)) (λ p. inl refl)

abbrev pair_up : ℕ → Content → Shape → Shape × Shape
pair_up line key v = (node line None key, v)

pair_grows : (M L : Fault → Type 0) (depth : ℕ) → BlockGrows M L (block_at depth) → (column : ℕ) (is_root : Bool) (keys : List Content) → EntryGrows M L (pair_of (block_at depth) depth column is_root keys)
pair_grows M L depth h column is_root keys x extra full last far =
    let value = λ (others : List Row). value_of_entry (block_at depth) depth (record { first = x.first; others = others }) in
    then_grows M L (key_at column is_root keys x.first) (λ key. value x.others >>= λ v. Ok (pair_up x.first.number key v)) (λ key. value (x.others ++ extra) >>= λ v. Ok (pair_up x.first.number key v))
    (λ key q. wrap_grows M L (pair_up x.first.number key) (value x.others) (value (x.others ++ extra))
    (with_grows M L depth h false false x.first x.others extra full last far (after_key (behind_key x.first.content)) (after_key_end x.first.content)))

never_agree : (rows : List Row) → Agree never never rows
never_agree [] = tt
never_agree (r ∷ rows) = (refl, never_agree rows)

blocks_grow : (M L : Fault → Type 0) (depth : ℕ) → BlockGrows M L (block_at depth)
unfolding block_at map_entries sequence_entries
blocks_grow M L zero is_root r rows more full last far = same_grows M L _
blocks_grow M L (suc depth) is_root r rows more full last far =
    let inner = block_at depth in
    let h = blocks_grow M L depth in
    let placed = blocks_placed L depth in
    let item = item_of inner depth r.column is_root in
    let pair = pair_of inner depth r.column is_root in
    let items = entries_after r.column never never (r ∷ rows) in
    let more_items = entries_after r.column never never (r ∷ rows ++ more) in
    let pairs = entries_after r.column is_key_awaiting never (r ∷ rows) in
    let more_pairs = entries_after r.column is_key_awaiting never (r ∷ rows ++ more) in
    if_grows M L (is_dash r.content) _ _ _ _
    (λ p. wrap_grows M L (λ (xs : List Shape). sequence (of_list xs)) (items_of item items) (items_of item more_items)
    (items_grow M L item (item_grows M L depth h r.column is_root) (item_placed L inner placed depth r.column is_root) items more_items
    (entries_grow M L r.column never never never (r ∷ rows) more (never_agree (r ∷ rows)) full last far)))
    (λ p. wrap_grows M L (λ (ps : List (Shape × Shape)). mapping (of_pairs ps)) (pairs_of pair [] pairs) (pairs_of pair [] more_pairs)
    (pairs_grow M L pair (pair_grows M L depth h r.column is_root) (pair_placed L inner placed depth r.column is_root) [] pairs more_pairs
    (entries_grow M L r.column is_key_awaiting never never (r ∷ rows) more (never_agree (r ∷ rows)) full last far)))

-- ---- documents

root_grows : (M L : Fault → Type 0) (r : Row) (rows more : List Row) → Filled rows → LastMay M r rows → OfRows L more → Grows M L (root_of (r ∷ rows)) (root_of (r ∷ rows ++ more))
root_grows M L r rows more full last far = with_grows M L 64 (blocks_grow M L 64) true true r rows more full last far r.content ([], refl)

-- the rows that pass at the front: the same with rows behind, or all, and then more of those behind
record Cut (test : Row → Bool) (rows more : List Row) : Type 0 where
  pub d : Row
  pub behind : List Row
  pub inside : take_while test (rows ++ more) ≡ take_while test rows
  pub rest : after_while test rows ≡ d ∷ behind
  pub more_rest : after_while test (rows ++ more) ≡ d ∷ behind ++ more

record All_in (test : Row → Bool) (rows more : List Row) : Type 0 where
  pub all : take_while test rows ≡ rows
  pub inside : take_while test (rows ++ more) ≡ rows ++ take_while test more
  pub rest : after_while test rows ≡ []
  pub more_rest : after_while test (rows ++ more) ≡ after_while test more

cuts : (test : Row → Bool) (rows more : List Row) → Cut test rows more ⊎ All_in test rows more
cuts test [] more = inr (record { all = refl; inside = refl; rest = refl; more_rest = refl })
cuts test (r ∷ rows) more = by_test (test r) refl (cuts test rows more)
  where
    taken : (b : Bool) → test r ≡ b → (rs : List Row) → take_while test (r ∷ rs) ≡ cond b (r ∷ take_while test rs) []
    taken b is rs = take_while-cons test r rs ∙ ap (λ (t : Bool). cond t (r ∷ take_while test rs) []) is

    left : (b : Bool) → test r ≡ b → (rs : List Row) → after_while test (r ∷ rs) ≡ cond b (after_while test rs) (r ∷ rs)
    left b is rs = after_while-cons test r rs ∙ ap (λ (t : Bool). cond t (after_while test rs) (r ∷ rs)) is

    onto : {a b : List Row} → a ≡ b → r ∷ a ≡ r ∷ b
    onto e = ap (λ (xs : List Row). r ∷ xs) e

    by_test : (b : Bool) → test r ≡ b → Cut test rows more ⊎ All_in test rows more → Cut test (r ∷ rows) more ⊎ All_in test (r ∷ rows) more
    by_test false is c = inl (record {
      d = r;
      behind = rows;
      inside = taken false is (rows ++ more) ∙ sym (taken false is rows);
      rest = left false is rows;
      more_rest = left false is (rows ++ more);
    })
    by_test true is (inl c) = inl (record {
      d = c.d;
      behind = c.behind;
      inside = taken true is (rows ++ more) ∙ onto c.inside ∙ sym (taken true is rows);
      rest = left true is rows ∙ c.rest;
      more_rest = left true is (rows ++ more) ∙ c.more_rest;
    })
    by_test true is (inr a) = inr (record {
      all = taken true is rows ∙ onto a.all;
      inside = taken true is (rows ++ more) ∙ onto a.inside;
      rest = left true is rows ∙ a.rest;
      more_rest = left true is (rows ++ more) ∙ a.more_rest;
    })

behind_grows : (M L : Fault → Type 0) (x : Shape) (d : Row) (behind more : List Row) → OfRows L more
    → Grows M L (unless (after_document (d ∷ behind)) (Ok x)) (unless (after_document (d ∷ behind ++ more)) (Ok x))
behind_grows M L x d behind more far = by_test (is_stop d)
  where
    ended : (rows : List Row) → Grows M L (unless (end_at rows) (Ok x)) (unless (end_at (rows ++ more)) (Ok x))
    ended [] = unless_placed L (end_at more) (Ok x) (end_placed L more far) tt
    ended (r ∷ rows) = inl refl

    by_test : (t : Bool) → Grows M L (unless (if t then end_at behind else end_at (d ∷ behind)) (Ok x)) (unless (if t then end_at (behind ++ more) else end_at (d ∷ behind ++ more)) (Ok x))
    by_test true = ended behind
    by_test false = inl refl

abbrev document_of_cut : List Row → List Row → Result Shape Fault
document_of_cut inside behind = root_of inside >>= λ x. unless (after_document behind) (Ok x)

body_grows : (M L : Fault → Type 0) (rows more : List Row) → Filled rows → LastRowMay M rows → OfRows L more → Grows M L (body_of rows) (body_of (rows ++ more))
body_grows M L [] more full last far = body_placed L more far
body_grows M L (r ∷ rows) more full last far =
    let test = is_inside r.column in
    let all = r ∷ rows in
    elim (cuts test all more) [
      | inl c ↦
          subst (λ (xs : List Row). Grows M L (document_of_cut (take_while test all) (after_while test all)) (document_of_cut xs (after_while test (all ++ more)))) (sym c.inside)
          (subst (λ (ys : List Row). Grows M L (document_of_cut (take_while test all) (after_while test all)) (document_of_cut (take_while test all) ys)) (sym c.more_rest)
          (subst (λ (ys : List Row). Grows M L (document_of_cut (take_while test all) ys) (document_of_cut (take_while test all) (c.d ∷ c.behind ++ more))) (sym c.rest)
          (then_grows M L (root_of (take_while test all)) (λ x. unless (after_document (c.d ∷ c.behind)) (Ok x)) (λ x. unless (after_document (c.d ∷ c.behind ++ more)) (Ok x))
          (λ x q. behind_grows M L x c.d c.behind more far))))
      | inr a ↦
          subst (λ (xs : List Row). Grows M L (document_of_cut xs (after_while test all)) (document_of_cut (take_while test (all ++ more)) (after_while test (all ++ more)))) (sym a.all)
          (subst (λ (xs : List Row). Grows M L (document_of_cut all (after_while test all)) (document_of_cut xs (after_while test (all ++ more)))) (sym a.inside)
          (subst (λ (ys : List Row). Grows M L (document_of_cut all (after_while test all)) (document_of_cut (all ++ take_while test more) ys)) (sym a.more_rest)
          (subst (λ (ys : List Row). Grows M L (document_of_cut all ys) (document_of_cut (all ++ take_while test more) (after_while test more))) (sym a.rest)
          (last_grows M L (λ (x : Shape). x) (root_of all) (root_of (all ++ take_while test more)) (λ x. unless (after_document (after_while test more)) (Ok x))
          (root_grows M L r rows (take_while test more) full.1 last (taken_all (OfRow L) test more far))
          (λ x. unless_placed L (after_document (after_while test more)) (Ok x) (behind_placed L (after_while test more) (left_all (OfRow L) test more far)) tt)))))
    ]

-- a directive alone lacks its `---`
abbrev StartMay : (Fault → Type 0) → List Row → Type 0
StartMay M rows = (e : Fault) → LacksStart rows e → M e

directive_grows : (M L : Fault → Type 0) (r : Row) (rows more : List Row) → is_directive r ≡ true → StartMay M (r ∷ rows) → Filled rows → LastRowMay M rows → OfRows L more
    → Grows M L (after_directive r rows >>= body_of) (after_directive r (rows ++ more) >>= body_of)
directive_grows M L r [] more is start full last far = with_rows more far
  where
    place : Fault
    place = record { line = r.number; column = r.column; kind = kinds.Character }

    lacks : M place
    lacks = start place (r, refl, is, refl)

    with_rows : (rs : List Row) → OfRows L rs → Grows M L (after_directive r [] >>= body_of) (after_directive r rs >>= body_of)
    with_rows [] h = inl refl
    with_rows (s ∷ rs) h = by_test (is_start s)
      where
        by_test : (t : Bool) → Grows M L (after_directive r [] >>= body_of) ((if t then Ok rs else at_row r kinds.Character) >>= body_of)
        by_test true = inr (lacks, body_placed L rs h.1)
        by_test false = inl refl
directive_grows M L r (s ∷ rows) more is start full last far = by_test (is_start s)
  where
    by_test : (t : Bool) → Grows M L ((if t then Ok rows else at_row r kinds.Character) >>= body_of) ((if t then Ok (rows ++ more) else at_row r kinds.Character) >>= body_of)
    by_test true = body_grows M L rows more full.1 (last_below M s rows last) far
    by_test false = inl refl

-- what is read of a document, with rows added behind
pub document_grows : (M L : Fault → Type 0) (rows more : List Row) → Filled rows → LastRowMay M rows → StartMay M rows → OfRows L more → Grows M L (document_of rows) (document_of (rows ++ more))
document_grows M L [] more full last start far = document_placed L more far
document_grows M L (r ∷ rows) more full last start far = by_tests (is_directive r) (is_start r) (is_marker r && not (is_stop r)) refl
  where
    head : Bool → Bool → Bool → List Row → Result Shape Fault
    head a b c rs = (if a then after_directive r rs else if b then Ok rs else if c then at_row r kinds.Character else Ok (r ∷ rs)) >>= body_of

    by_tests : (a b c : Bool) → is_directive r ≡ a → Grows M L (head a b c rows) (head a b c (rows ++ more))
    by_tests true b c is = directive_grows M L r rows more is start full.1 (last_below M r rows last) far
    by_tests false true c is = body_grows M L rows more full.1 (last_below M r rows last) far
    by_tests false false true is = inl refl
    by_tests false false false is = body_grows M L (r ∷ rows) more full last far
