-- Changes of a table of which some slots are shared, as equations.
--     table_added      a page more
--     table_owned      a shared page becomes the table's own
--     table_absent, table_dropped, table_cut, table_moved      a number without a page, a shared page, the last slot, and another slot is taken away
--     table_shared, table_copied     the border between the shared slots and the table's own is another, and an equal table
use Rattle.std.proofs.Common.{◌≡◌, ℕ, ◌+◌, ◌<◌, ◌≤◌, ◌^◌, List, [], ◌∷◌, ◌++◌, length, set, Some, None, IsSome, refl, sym, ap, subst, ◌∙◌, arith}
use Rattle.std.proofs.lemmas.List.{append_assoc}
use Rattle.std.specs.FinMap.{get, insert, len, remove}
use Rattle.maps.specs.Maps.{get-insert-same, len-insert_again, len-insert_new, len-removed, remove_absent}
use Rattle.page_table.specs.declared.slots.Slot.{Slot}
use Rattle.page_table.specs.Table.{IsIndexed, IsTable, content, slot_at}
use Rattle.page_table.proofs.Tables.{Index, absent_removed, added, content_dropped, content_owned, cut, in_front, indexed_dropped, indexed_owned, last_has_slot, length_all, moved, set_behind}

-- slots behind the shared ones, and one more
one_more : (shared slots more : List Slot) (s : Slot) → more ≡ slots ++ s ∷ [] → shared ++ more ≡ shared ++ slots ++ s ∷ []
one_more shared slots more s e = ap (λ (xs : List Slot). shared ++ xs) e ∙ sym (append_assoc shared slots (s ∷ []))

pub table_added : (index next : Index) (shared slots more : List Slot) (room wider q place : ℕ) (s : Slot) → IsTable index shared slots room
    → get index q ≡ None → s.number ≡ q → place ≡ length shared + length slots → next ≡ insert index q place → more ≡ slots ++ s ∷ []
    → len index + 1 ≤ wider
    → IsTable next shared more wider × (content next (shared ++ more) ≡ insert (content index (shared ++ slots)) q s.page)
table_added index next shared slots more room wider q place s h absent number at e f enough =
    let all = length_all shared slots in
    let step = added (length shared) index next (shared ++ slots) (shared ++ more) q place s h.indexed absent number (at ∙ sym all) e (one_more shared slots more s f) in
    let count : len next ≡ len index + 1 = ap (λ (x : Index). len x) e ∙ len-insert_new index q place absent in
    (record { indexed = step.0; room = omega (arith, count, enough); few = h.few }, step.1)

pub table_owned : (index next : Index) (shared slots more : List Slot) (room q i own : ℕ) (s : Slot) → IsTable index shared slots room
    → get index q ≡ Some i → i < length shared → s ≡ slot_at shared i → own ≡ length slots → next ≡ insert index q (length shared + own) → more ≡ slots ++ s ∷ []
    → IsTable next shared more room × ((content next (shared ++ more) ≡ content index (shared ++ slots)) × (get next q ≡ Some (length shared + own)))
table_owned index next shared slots more room q i own s h here low is at e f =
    let all = length_all shared slots in
    let same : s ≡ slot_at (shared ++ slots) i = is ∙ sym (in_front shared slots i low) in
    let number : s.number ≡ q = ap (λ (t : Slot). t.number) same ∙ (h.indexed.placed q i here).1 in
    let page : s.page ≡ (slot_at (shared ++ slots) i).page = ap (λ (t : Slot). t.page) same in
    let place : length shared + own ≡ length (shared ++ slots) = omega (arith, at, all) in
    let as_next : next ≡ insert index q (length (shared ++ slots)) = e ∙ ap (insert index q) place in
    let as_more = one_more shared slots more s f in
    let count : len next ≡ len index =
    ap (λ (x : Index). len x) e ∙ len-insert_again index q (length shared + own) (subst IsSome (sym here) refl) in (
      record {
        indexed =
            subst (λ (x : Index). IsIndexed (length shared) x (shared ++ more)) (sym as_next)
            (subst (IsIndexed (length shared) (insert index q (length (shared ++ slots)))) (sym as_more)
            (indexed_owned (length shared) index (shared ++ slots) q i h.indexed here low s number page));
        room = let enough = h.room in omega (arith, count, enough);
        few = h.few;
      },
      (
        ap (λ (x : Index). content x (shared ++ more)) as_next ∙ ap (content (insert index q (length (shared ++ slots)))) as_more
            ∙ content_owned (length shared) index (shared ++ slots) q i h.indexed here low s number page,
        ap (λ (x : Index). get x q) e ∙ get-insert-same index q (length shared + own),
      ),
    )

pub table_absent : (index next : Index) (shared slots : List Slot) (room q : ℕ) → IsTable index shared slots room → get index q ≡ None → next ≡ remove index q
    → IsTable next shared slots room × (content next (shared ++ slots) ≡ remove (content index (shared ++ slots)) q)
table_absent index next shared slots room q h absent e =
    let step = absent_removed (length shared) index next (shared ++ slots) q h.indexed absent e in
    let count : len next ≡ len index = ap (λ (x : Index). len x) (e ∙ remove_absent index q absent) in
    let enough = h.room in
    (record { indexed = step.0; room = omega (arith, count, enough); few = h.few }, step.1)

-- there are no more numbers where one is taken away
fewer : (index next : Index) (q i room : ℕ) → get index q ≡ Some i → next ≡ remove index q → len index ≤ room → len next < room
fewer index next q i room here e enough =
    let one = len-removed index q i here in
    let count : len next ≡ len (remove index q) = ap (λ (x : Index). len x) e in
    omega (arith, one, count, enough)

pub table_dropped : (index next : Index) (shared slots : List Slot) (room q i : ℕ) → IsTable index shared slots room → get index q ≡ Some i → i < length shared
    → next ≡ remove index q
    → IsTable next shared slots room × (content next (shared ++ slots) ≡ remove (content index (shared ++ slots)) q)
table_dropped index next shared slots room q i h here low e =
    let less = fewer index next q i room here e h.room in (
      record {
        indexed =
            subst (λ (x : Index). IsIndexed (length shared) x (shared ++ slots)) (sym e)
            (indexed_dropped (length shared) index (shared ++ slots) q i h.indexed here low);
        room = omega (arith, less);
        few = h.few;
      },
      ap (λ (x : Index). content x (shared ++ slots)) e ∙ content_dropped (length shared) index (shared ++ slots) q i h.indexed here low,
    )

-- own slots of which the last one is taken away
module _ (index left : Index) (shared slots short : List Slot) (last : Slot) (room q i : ℕ) (h : IsTable index shared slots room) (here : get index q ≡ Some i) (e : slots ≡ short ++ last ∷ []) (f : left ≡ remove index q) where
  whole : shared ++ slots ≡ shared ++ short ++ last ∷ []
  whole = one_more shared short slots last e

  front : length shared ≤ length (shared ++ short)
  front = let all = length_all shared short in omega (arith, all)

  pub table_cut : length shared + length short ≤ i → IsTable left shared short room × (content left (shared ++ short) ≡ remove (content index (shared ++ slots)) q)
  table_cut high =
      let all = length_all shared short in
      let step = cut (length shared) index left (shared ++ slots) (shared ++ short) last q i h.indexed front here whole f (omega (arith, all, high)) in
      let less = fewer index left q i room here f h.room in
      (record { indexed = step.0; room = omega (arith, less); few = h.few }, step.1)

  pub last_is_there : i < length shared + length short → IsSome (get left last.number)
  last_is_there low =
      let all = length_all shared short in
      last_has_slot (length shared) index left (shared ++ slots) (shared ++ short) last q i h.indexed front here whole f (omega (arith, all, low))

  pub table_moved : (next : Index) (own : ℕ) → i ≡ length shared + own → own < length short → next ≡ insert left last.number i
      → IsTable next shared (set short own last) room × (content next (shared ++ set short own last) ≡ remove (content index (shared ++ slots)) q)
  table_moved next own at low n =
      let all = length_all shared short in
      let step =
      moved (length shared) index left next (shared ++ slots) (shared ++ short) last q i h.indexed front here whole f n (omega (arith, all, low, at)) in
      let less = fewer index left q i room here f h.room in
      let count : len next ≡ len left =
      ap (λ (x : Index). len x) n ∙ len-insert_again left last.number i (last_is_there (omega (arith, low, at))) in
      let is : set (shared ++ short) i last ≡ shared ++ set short own last = ap (λ n. set (shared ++ short) n last) at ∙ set_behind shared short own last in (
        record {
          indexed = subst (IsIndexed (length shared) next) is step.0;
          room = omega (arith, less, count);
          few = h.few;
        },
        ap (content next) (sym is) ∙ step.1,
      )

pub table_shared : (index : Index) (shared slots front rest : List Slot) (room wider : ℕ) → IsTable index shared slots room → front ++ rest ≡ shared ++ slots
    → length shared ≤ length front → length front < 2 ^ 63 → len index ≤ wider → IsTable index front rest wider
table_shared index shared slots front rest room wider h e more few enough = record {
  indexed =
      subst (IsIndexed (length front) index) (sym e)
      (record { placed = h.indexed.placed; found = λ i low lt. h.indexed.found i (omega (arith, low, more)) lt });
  room = enough;
  few = few;
}

pub table_copied : (index same : Index) (shared front slots rest : List Slot) (room wider : ℕ) → IsTable index shared slots room → same ≡ index → front ≡ shared → rest ≡ slots
    → len index ≤ wider → IsTable same front rest wider
table_copied index same shared front slots rest room wider h e f g enough =
    subst (λ (x : Index). IsTable x front rest wider) (sym e)
    (subst (λ (xs : List Slot). IsTable index xs rest wider) (sym f)
    (subst (λ (xs : List Slot). IsTable index shared xs wider) (sym g) (record { indexed = h.indexed; room = enough; few = h.few })))
