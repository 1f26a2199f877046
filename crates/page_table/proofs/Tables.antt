-- Pages in slots with an index.
--     get_content, content_at, content_none, by_hint      what the pages are under a number
--     read_is      a slot that was read
--     contains_content, len_content, first_content      the same tests over the index
--     new_table, new_content      no slot
--     indexed_set, content_set      a slot whose page is another
--     added      a slot more
--     absent_removed, cut, moved      a number without a slot, the last slot, and another slot is taken away; the last one takes its place
--     at_own, in_front, by_own_hint, own_found      slots behind shared ones, which are the table's own
--     indexed_dropped, indexed_owned ..      a shared page is taken away, or becomes the table's own
--     own_few, own_fewer      how many slots are the table's own
--     own_table_set, own_content_set      an own slot whose page is another
use Rattle.std.proofs.Common.{◌≡◌, ◌≢◌, ℕ, zero, suc, ◌+◌, ◌<◌, ◌≤◌, List, [], ◌∷◌, ◌++◌, length, get_or, set, inl, inr, Option, Some, None, IsSome, is_some, nat_le, refl, sym, ap, subst, ◌∙◌, arith}
use Rattle.std.proofs.lemmas.Bool.Decides.{eqb_tells}
use Rattle.std.proofs.lemmas.List.{get_or_append_left, get_or_default, get_or_push, get_or-set_same, get_or-set_other, length_push, length-append, length-set}
use Rattle.std.proofs.lemmas.Option.{same_Some}
use Rattle.std.specs.Ordering.{nat_cmp}
use Rattle.std.specs.Option.{option_map}
use Rattle.std.specs.FinMap.{FinMap, contains_key, empty, get, insert, len, remove, get-empty, len-empty}
use Rattle.maps.specs.Closure.{get-changed, changed-empty, len-changed}
use Rattle.maps.specs.Maps.{get-insert-same, get-insert-other, get-remove-same, get-remove-other, len-removed, remove_absent, same_around, passes, least_key, least_same}
use Rattle.page_table.specs.declared.slots.Slot.{Slot}
use Rattle.page_table.specs.Page.{Page}
use Rattle.page_table.specs.Table.{IsIndexed, IsTable, content, no_slot, slot_at}

abbrev pub Index : Type 0
Index = FinMap nat_cmp ℕ

pub None_not_Some : {A : Type 0} (x : A) → None ≡ Some x → ⊥
None_not_Some x e = cc

no_some : {A : Type 0} (o : Option A) → o ≡ None → IsSome o → ⊥
no_some None e h = cc
no_some (Some x) e h = cc

-- ---- the page under a number

pub get_content : (index : Index) (slots : List Slot) (q : ℕ) → get (content index slots) q ≡ option_map (λ i. (slot_at slots i).page) (get index q)
unfolding content
get_content index slots q = get-changed (λ _ i. (slot_at slots i).page) index q

pub content_at : (index : Index) (slots : List Slot) (q i : ℕ) → get index q ≡ Some i → get (content index slots) q ≡ Some (slot_at slots i).page
content_at index slots q i e = get_content index slots q ∙ ap (option_map (λ i. (slot_at slots i).page)) e

pub content_none : (index : Index) (slots : List Slot) (q : ℕ) → get index q ≡ None → get (content index slots) q ≡ None
content_none index slots q e = get_content index slots q ∙ ap (option_map (λ i. (slot_at slots i).page)) e

pub by_hint : (k : ℕ) (index : Index) (slots : List Slot) (q i : ℕ) → IsIndexed k index slots → k ≤ i → i < length slots → (slot_at slots i).number ≡ q → get (content index slots) q ≡ Some (slot_at slots i).page
by_hint k index slots q i h low lt e = content_at index slots q i (ap (get index) (sym e) ∙ h.found i low lt)

-- a slot that was read is the one at its place
pub read_is : (slots : List Slot) (i : ℕ) (s : Slot) → i < length slots → s ≡ get_or slots i s → s ≡ slot_at slots i
read_is slots i s lt e = e ∙ get_or_default slots i s no_slot lt

-- a number that has no page has no slot
pub not_indexed : (index : Index) (slots : List Slot) (q : ℕ) → get (content index slots) q ≡ None → get index q ≡ None
not_indexed index slots q e =
    elim (get index q) as (λ o. get index q ≡ o → o ≡ None) [
      | None ↦ λ f. refl
      | Some i ↦ λ f. absurd (None_not_Some _ (sym e ∙ content_at index slots q i f))
    ] refl

-- a number that has a page has a slot
pub indexed_there : (index : Index) (slots : List Slot) (q : ℕ) (p : Page) → get (content index slots) q ≡ Some p → (i : ℕ) × (get index q ≡ Some i)
indexed_there index slots q p e =
    elim (get index q) as (λ o. get index q ≡ o → (i : ℕ) × (o ≡ Some i)) [
      | None ↦ λ f. absurd (None_not_Some p (sym (content_none index slots q f) ∙ e))
      | Some i ↦ λ f. (i, refl)
    ] refl

-- two contents are the same under a number at which both indexes lead to the same page, or to none
same_here : (index other : Index) (slots more : List Slot) (r : ℕ) → get index r ≡ get other r
    → ((j : ℕ) → get other r ≡ Some j → (slot_at slots j).page ≡ (slot_at more j).page) → get (content index slots) r ≡ get (content other more) r
same_here index other slots more r e same =
    get_content index slots r ∙ ap (option_map (λ i. (slot_at slots i).page)) e
    ∙ elim (get other r) as (λ o. get other r ≡ o → option_map (λ i. (slot_at slots i).page) o ≡ option_map (λ i. (slot_at more i).page) o) [
      | None ↦ λ f. refl
      | Some j ↦ λ f. ap Some (same j f)
    ] refl
    ∙ sym (get_content other more r)

-- the same tests over the index and over the pages
pub contains_content : (index : Index) (slots : List Slot) (q : ℕ) → contains_key index q ≡ contains_key (content index slots) q
contains_content index slots q =
    elim (get index q) as (λ o. is_some o ≡ is_some (option_map (λ i. (slot_at slots i).page) o)) [ None ↦ refl | Some i ↦ refl ] ∙ sym (ap is_some (get_content index slots q))

pub len_content : (index : Index) (slots : List Slot) → len index ≡ len (content index slots)
unfolding content
len_content index slots = sym (len-changed (λ _ i. (slot_at slots i).page) index)

pub first_content : (index : Index) (slots : List Slot) (n : ℕ) → least_key (λ q _. nat_le n q) index ≡ least_key (λ q _. nat_le n q) (content index slots)
first_content index slots n =
    least_same (λ q _. nat_le n q) (λ q _. nat_le n q) index (content index slots) (λ q.
    elim (get index q) as (λ o. passes (λ r _. nat_le n r) q o ≡ passes (λ r _. nat_le n r) q (option_map (λ i. (slot_at slots i).page) o)) [ None ↦ refl | Some i ↦ refl ]
    ∙ sym (ap (passes (λ r _. nat_le n r) q) (get_content index slots q)))

-- ---- no slot

pub none_indexed : IsIndexed 0 empty []
none_indexed = record {
  placed = λ q i e. absurd (None_not_Some i (sym (get-empty {X = ℕ} nat_cmp q) ∙ e));
  found = λ i low lt. absurd (omega arith);
}

pub new_table : (index : Index) (shared slots : List Slot) (room : ℕ) → index ≡ empty → shared ≡ [] → slots ≡ [] → IsTable index shared slots room
new_table index shared slots room e f g = record {
  indexed =
      subst (λ (xs : List Slot). IsIndexed (length xs) index (xs ++ slots)) (sym f)
      (subst (λ (xs : List Slot). IsIndexed 0 index xs) (sym g) (subst (λ (x : Index). IsIndexed 0 x []) (sym e) none_indexed));
  room = let none : len index ≡ 0 = ap (λ (x : Index). len x) e ∙ len-empty nat_cmp ℕ in omega (arith, none);
  few = let none : length shared ≡ 0 = ap length f in omega (arith, none);
}

none_content : content empty [] ≡ empty
unfolding content
none_content = changed-empty (λ _ i. (slot_at [] i).page)

pub new_content : (index : Index) (slots : List Slot) → index ≡ empty → slots ≡ [] → content index slots ≡ empty
new_content index slots e f = ap (λ (x : Index). content x slots) e ∙ ap (content empty) f ∙ none_content

-- ---- a slot whose page is another

module _ (k : ℕ) (index : Index) (slots : List Slot) (q i : ℕ) (s : Slot) (h : IsIndexed k index slots) (here : get index q ≡ Some i) (number : s.number ≡ q) where
  -- another number's slot is another
  elsewhere : (r j : ℕ) → r ≢ q → get index r ≡ Some j → j ≢ i
  elsewhere r j n e same = n (sym (h.placed r j e).1 ∙ ap (λ m. (slot_at slots m).number) same ∙ (h.placed q i here).1)

  at_set : slot_at (set slots i s) i ≡ s
  at_set = get_or-set_same slots i s no_slot (h.placed q i here).0

  pub indexed_set : IsIndexed k index (set slots i s)
  indexed_set = record {
    placed = λ r j e. elim (eqb_tells r q) [
      | inl same ↦
          let at : i ≡ j = same_Some i j (sym here ∙ sym (ap (get index) same.1) ∙ e) in
          let lt = (h.placed q i here).0 in
          let long = length-set slots i s in
          (omega arith, ap (λ m. (slot_at (set slots i s) m).number) (sym at) ∙ ap (λ (t : Slot). t.number) at_set ∙ number ∙ sym same.1)
      | inr other ↦
          let lt = (h.placed r j e).0 in
          let long = length-set slots i s in
          (omega arith, ap (λ (t : Slot). t.number) (get_or-set_other slots i j s no_slot (elsewhere r j other.1 e)) ∙ (h.placed r j e).1)
    ];
    found = λ j low lt. elim (eqb_tells j i) [
      | inl same ↦
          ap (λ m. get index (slot_at (set slots i s) m).number) same.1 ∙ ap (λ (t : Slot). get index t.number) at_set ∙ ap (get index) number ∙ here
          ∙ ap Some (sym same.1)
      | inr other ↦
          let long = length-set slots i s in
          ap (λ (t : Slot). get index t.number) (get_or-set_other slots i j s no_slot other.1) ∙ h.found j low (omega arith)
    ];
  }

  pub content_set : content index (set slots i s) ≡ insert (content index slots) q s.page
  content_set =
      same_around _ _ q
      (content_at index (set slots i s) q i here ∙ ap (λ (t : Slot). Some t.page) at_set ∙ sym (get-insert-same (content index slots) q s.page))
      (λ r n. same_here index index (set slots i s) slots r refl
      (λ j e. ap (λ (t : Slot). t.page) (get_or-set_other slots i j s no_slot (elsewhere r j n e))) ∙ sym (get-insert-other (content index slots) q s.page r n))

-- ---- a slot more

module _ (k : ℕ) (index : Index) (slots : List Slot) (q : ℕ) (s : Slot) (h : IsIndexed k index slots) (absent : get index q ≡ None) (number : s.number ≡ q) where
  indexed_added : IsIndexed k (insert index q (length slots)) (slots ++ s ∷ [])
  indexed_added = record {
    placed = λ r j e. elim (eqb_tells r q) [
      | inl same ↦
          let at : length slots ≡ j = same_Some (length slots) j (sym (get-insert-same index q (length slots)) ∙ sym (ap (get (insert index q (length slots))) same.1) ∙ e) in
          let long = length_push slots s in
          (omega arith, ap (λ (t : Slot). t.number) (get_or_push slots s no_slot j at) ∙ number ∙ sym same.1)
      | inr other ↦
          let old = h.placed r j (sym (get-insert-other index q (length slots) r other.1) ∙ e) in
          let lt = old.0 in
          let long = length_push slots s in
          (omega arith, ap (λ (t : Slot). t.number) (get_or_append_left slots (s ∷ []) no_slot j lt) ∙ old.1)
    ];
    found = λ j low lt. elim (eqb_tells j (length slots)) [
      | inl same ↦
          ap (λ (t : Slot). get (insert index q (length slots)) t.number) (get_or_push slots s no_slot j (sym same.1))
          ∙ ap (get (insert index q (length slots))) number ∙ get-insert-same index q (length slots) ∙ ap Some (sym same.1)
      | inr other ↦
          let long = length_push slots s in
          let less : j < length slots = omega (arith, other.1) in
          let there = h.found j low less in
          let n : (slot_at slots j).number ≢ q = λ e. None_not_Some j (sym absent ∙ ap (get index) (sym e) ∙ there) in
          ap (λ (t : Slot). get (insert index q (length slots)) t.number) (get_or_append_left slots (s ∷ []) no_slot j less)
          ∙ get-insert-other index q (length slots) (slot_at slots j).number n ∙ there
    ];
  }

  content_added : content (insert index q (length slots)) (slots ++ s ∷ []) ≡ insert (content index slots) q s.page
  content_added =
      same_around _ _ q
      (content_at (insert index q (length slots)) (slots ++ s ∷ []) q (length slots) (get-insert-same index q (length slots))
      ∙ ap (λ (t : Slot). Some t.page) (get_or_push slots s no_slot (length slots) refl) ∙ sym (get-insert-same (content index slots) q s.page))
      (λ r n. same_here (insert index q (length slots)) index (slots ++ s ∷ []) slots r (get-insert-other index q (length slots) r n)
      (λ j e. ap (λ (t : Slot). t.page) (get_or_append_left slots (s ∷ []) no_slot j (h.placed r j e).0)) ∙ sym (get-insert-other (content index slots) q s.page r n))

-- the same, as equations
pub added : (k : ℕ) (index next : Index) (slots more : List Slot) (q place : ℕ) (s : Slot) → IsIndexed k index slots → get index q ≡ None → s.number ≡ q
    → place ≡ length slots → next ≡ insert index q place → more ≡ slots ++ s ∷ []
    → IsIndexed k next more × (content next more ≡ insert (content index slots) q s.page)
added k index next slots more q place s h absent number at e f =
    let is : next ≡ insert index q (length slots) = e ∙ ap (insert index q) at in (
      subst (λ (x : Index). IsIndexed k x more) (sym is) (subst (IsIndexed k (insert index q (length slots))) (sym f) (indexed_added k index slots q s h absent number)),
      ap (λ (x : Index). content x more) is ∙ ap (content (insert index q (length slots))) f ∙ content_added k index slots q s h absent number,
    )

-- ---- a slot is taken away

module _ (k : ℕ) (index : Index) (short : List Slot) (last : Slot) (q i : ℕ) (h : IsIndexed k index (short ++ last ∷ [])) (own : k ≤ length short) (here : get index q ≡ Some i) where
  at_last : slot_at (short ++ last ∷ []) (length short) ≡ last
  at_last = get_or_push short last no_slot (length short) refl

  last_found : get index last.number ≡ Some (length short)
  last_found =
      let long = length_push short last in
      ap (λ (t : Slot). get index t.number) (sym at_last) ∙ h.found (length short) own (omega arith)

  at_other : (j : ℕ) → j < length short → slot_at (short ++ last ∷ []) j ≡ slot_at short j
  at_other j lt = get_or_append_left short (last ∷ []) no_slot j lt

  elsewhere_left : (r j : ℕ) → r ≢ q → get index r ≡ Some j → j ≢ i
  elsewhere_left r j n e same =
      n (sym (h.placed r j e).1 ∙ ap (λ m. (slot_at (short ++ last ∷ []) m).number) same ∙ (h.placed q i here).1)

  other_number : (j : ℕ) → k ≤ j → j < length short → j ≢ i → (slot_at short j).number ≢ q
  other_number j low lt n e =
      let long = length_push short last in
      n (same_Some j i (sym (h.found j low (omega arith)) ∙ ap (λ (t : Slot). get index t.number) (at_other j lt) ∙ ap (get index) e ∙ here))

  -- the last one is taken away
  module _ (at_end : i ≡ length short) where
    below_end : (r j : ℕ) → r ≢ q → get index r ≡ Some j → j < length short
    below_end r j n e =
        let long = length_push short last in
        let lt = (h.placed r j e).0 in
        let other = elsewhere_left r j n e in
        omega (arith, other)

    indexed_cut : IsIndexed k (remove index q) short
    indexed_cut = record {
      placed = λ r j e. elim (eqb_tells r q) [
        | inl same ↦ absurd (None_not_Some j (sym (get-remove-same index q) ∙ ap (get (remove index q)) (sym same.1) ∙ e))
        | inr other ↦
            let old : get index r ≡ Some j = sym (get-remove-other index q r other.1) ∙ e in
            let lt = below_end r j other.1 old in
            (lt, ap (λ (t : Slot). t.number) (sym (at_other j lt)) ∙ (h.placed r j old).1)
      ];
      found = λ j low lt.
          let long = length_push short last in
          let n : j ≢ i = λ e. absurd (omega (arith, e, at_end, lt)) in
          get-remove-other index q (slot_at short j).number (other_number j low lt n)
          ∙ ap (λ (t : Slot). get index t.number) (sym (at_other j lt)) ∙ h.found j low (omega arith);
    }

    content_cut : content (remove index q) short ≡ remove (content index (short ++ last ∷ [])) q
    content_cut =
        same_around _ _ q
        (content_none (remove index q) short q (get-remove-same index q) ∙ sym (get-remove-same (content index (short ++ last ∷ [])) q))
        (λ r n. same_here (remove index q) index short (short ++ last ∷ []) r (get-remove-other index q r n)
        (λ j e. ap (λ (t : Slot). t.page) (sym (at_other j (below_end r j n e)))) ∙ sym (get-remove-other (content index (short ++ last ∷ [])) q r n))

  -- another one is taken away, and the last one takes its place
  module _ (before_end : i < length short) where
    last_is_other : last.number ≢ q
    last_is_other e = absurd (let same = same_Some i (length short) (sym here ∙ ap (get index) (sym e) ∙ last_found) in omega (arith, before_end, same))

    last_there : get (remove index q) last.number ≡ Some (length short)
    last_there = get-remove-other index q last.number last_is_other ∙ last_found

    indexed_moved : IsIndexed k (insert (remove index q) last.number i) (set short i last)
    indexed_moved =
        let long = length_push short last in
        let kept = length-set short i last in
        record {
          placed = λ r j e. elim (eqb_tells r last.number) [
            | inl same ↦
                let at : i ≡ j = same_Some i j (sym (get-insert-same (remove index q) last.number i) ∙ sym (ap (get (insert (remove index q) last.number i)) same.1) ∙ e) in
                (omega (arith, before_end, at, kept), ap (λ m. (slot_at (set short i last) m).number) (sym at) ∙ ap (λ (t : Slot). t.number) (get_or-set_same short i last no_slot before_end) ∙ sym same.1)
            | inr other ↦
                let removed : get (remove index q) r ≡ Some j = sym (get-insert-other (remove index q) last.number i r other.1) ∙ e in
                let n : r ≢ q = λ f. None_not_Some j (sym (get-remove-same index q) ∙ ap (get (remove index q)) (sym f) ∙ removed) in
                let old : get index r ≡ Some j = sym (get-remove-other index q r n) ∙ removed in
                let lt = (h.placed r j old).0 in
                let not_end : j ≢ length short = λ f. other.1 (sym (h.placed r j old).1 ∙ ap (λ m. (slot_at (short ++ last ∷ []) m).number) f ∙ ap (λ (t : Slot). t.number) at_last) in
                let less : j < length short = omega (arith, lt, long, not_end) in
                (omega (arith, less, kept), ap (λ (t : Slot). t.number) (get_or-set_other short i j last no_slot (elsewhere_left r j n old) ∙ sym (at_other j less)) ∙ (h.placed r j old).1)
          ];
          found = λ j low lt. elim (eqb_tells j i) [
            | inl same ↦
                ap (λ m. get (insert (remove index q) last.number i) (slot_at (set short i last) m).number) same.1
                ∙ ap (λ (t : Slot). get (insert (remove index q) last.number i) t.number) (get_or-set_same short i last no_slot before_end)
                ∙ get-insert-same (remove index q) last.number i ∙ ap Some (sym same.1)
            | inr other ↦
                let less : j < length short = omega (arith, lt, kept) in
                let there : get index (slot_at short j).number ≡ Some j = ap (λ (t : Slot). get index t.number) (sym (at_other j less)) ∙ h.found j low (omega (arith, less, long)) in
                let not_last : (slot_at short j).number ≢ last.number = λ e. absurd (let same = same_Some j (length short) (sym there ∙ ap (get index) e ∙ last_found) in omega (arith, less, same)) in
                ap (λ (t : Slot). get (insert (remove index q) last.number i) t.number) (get_or-set_other short i j last no_slot other.1)
                ∙ get-insert-other (remove index q) last.number i (slot_at short j).number not_last
                ∙ get-remove-other index q (slot_at short j).number (other_number j low less other.1) ∙ there
          ];
        }

    content_moved : content (insert (remove index q) last.number i) (set short i last) ≡ remove (content index (short ++ last ∷ [])) q
    content_moved =
        let long = length_push short last in
        same_around _ _ q
        (content_none (insert (remove index q) last.number i) (set short i last) q (get-insert-other (remove index q) last.number i q (λ e. last_is_other (sym e)) ∙ get-remove-same index q)
        ∙ sym (get-remove-same (content index (short ++ last ∷ [])) q))
        (λ r n. elim (eqb_tells r last.number) [
          | inl same ↦
              ap (get (content (insert (remove index q) last.number i) (set short i last))) same.1
              ∙ content_at (insert (remove index q) last.number i) (set short i last) last.number i (get-insert-same (remove index q) last.number i)
              ∙ ap (λ (t : Slot). Some t.page) (get_or-set_same short i last no_slot before_end ∙ sym at_last)
              ∙ sym (content_at index (short ++ last ∷ []) last.number (length short) last_found)
              ∙ ap (get (content index (short ++ last ∷ []))) (sym same.1)
              ∙ sym (get-remove-other (content index (short ++ last ∷ [])) q r n)
          | inr other ↦
              same_here (insert (remove index q) last.number i) index (set short i last) (short ++ last ∷ []) r
              (get-insert-other (remove index q) last.number i r other.1 ∙ get-remove-other index q r n)
              (λ j e.
              let lt = (h.placed r j e).0 in
              let not_end : j ≢ length short = λ f. other.1 (sym (h.placed r j e).1 ∙ ap (λ m. (slot_at (short ++ last ∷ []) m).number) f ∙ ap (λ (t : Slot). t.number) at_last) in
              let less : j < length short = omega (arith, lt, long, not_end) in
              ap (λ (t : Slot). t.page) (get_or-set_other short i j last no_slot (elsewhere_left r j n e) ∙ sym (at_other j less)))
              ∙ sym (get-remove-other (content index (short ++ last ∷ [])) q r n)
        ])

-- ---- as equations

-- a number without a slot
pub absent_removed : (k : ℕ) (index next : Index) (slots : List Slot) (q : ℕ) → IsIndexed k index slots → get index q ≡ None → next ≡ remove index q
    → IsIndexed k next slots × (content next slots ≡ remove (content index slots) q)
absent_removed k index next slots q h absent e =
    let is : next ≡ index = e ∙ remove_absent index q absent in (
      subst (λ (x : Index). IsIndexed k x slots) (sym is) h,
      ap (λ (x : Index). content x slots) is ∙ sym (remove_absent (content index slots) q (content_none index slots q absent)),
    )

pub cut : (k : ℕ) (index next : Index) (slots short : List Slot) (last : Slot) (q i : ℕ) → IsIndexed k index slots → k ≤ length short → get index q ≡ Some i
    → slots ≡ short ++ last ∷ [] → next ≡ remove index q → length short ≤ i
    → IsIndexed k next short × (content next short ≡ remove (content index slots) q)
cut k index next slots short last q i h own here e f high =
    let g : IsIndexed k index (short ++ last ∷ []) = subst (IsIndexed k index) e h in
    let long = length_push short last in
    let at : i ≡ length short = let lt = (g.placed q i here).0 in omega (arith, lt, long, high) in (
      subst (λ (x : Index). IsIndexed k x short) (sym f) (indexed_cut k index short last q i g own here at),
      ap (λ (x : Index). content x short) f ∙ content_cut k index short last q i g own here at ∙ ap (λ xs. remove (content index xs) q) (sym e),
    )

pub moved : (k : ℕ) (index left next : Index) (slots short : List Slot) (last : Slot) (q i : ℕ) → IsIndexed k index slots → k ≤ length short → get index q ≡ Some i
    → slots ≡ short ++ last ∷ [] → left ≡ remove index q → next ≡ insert left last.number i → i < length short
    → IsIndexed k next (set short i last) × (content next (set short i last) ≡ remove (content index slots) q)
moved k index left next slots short last q i h own here e f n low =
    let g : IsIndexed k index (short ++ last ∷ []) = subst (IsIndexed k index) e h in
    let is : next ≡ insert (remove index q) last.number i = n ∙ ap (λ (x : Index). insert x last.number i) f in (
      subst (λ (x : Index). IsIndexed k x (set short i last)) (sym is) (indexed_moved k index short last q i g own here low),
      ap (λ (x : Index). content x (set short i last)) is ∙ content_moved k index short last q i g own here low ∙ ap (λ xs. remove (content index xs) q) (sym e),
    )

pub last_has_slot : (k : ℕ) (index left : Index) (slots short : List Slot) (last : Slot) (q i : ℕ) → IsIndexed k index slots → k ≤ length short → get index q ≡ Some i
    → slots ≡ short ++ last ∷ [] → left ≡ remove index q → i < length short → IsSome (get left last.number)
last_has_slot k index left slots short last q i h own here e f low =
    subst IsSome (sym (ap (λ (x : Index). get x last.number) f ∙ last_there k index short last q i (subst (IsIndexed k index) e h) own here low)) refl

-- ---- slots that are shared, and those of the table's own behind them

pub at_own : (shared slots : List Slot) (i : ℕ) → slot_at (shared ++ slots) (length shared + i) ≡ slot_at slots i
at_own [] slots i = let next : length {A = Slot} [] + i ≡ i = omega arith in ap (slot_at slots) next
at_own (x ∷ shared) slots i =
    let next : length (x ∷ shared) + i ≡ suc (length shared + i) = omega arith in
    ap (slot_at (x ∷ (shared ++ slots))) next ∙ at_own shared slots i

pub set_behind : (shared slots : List Slot) (i : ℕ) (s : Slot) → set (shared ++ slots) (length shared + i) s ≡ shared ++ set slots i s
set_behind [] slots i s = let next : length {A = Slot} [] + i ≡ i = omega arith in ap (λ n. set slots n s) next
set_behind (x ∷ shared) slots i s =
    let next : length (x ∷ shared) + i ≡ suc (length shared + i) = omega arith in
    ap (λ n. set (x ∷ (shared ++ slots)) n s) next ∙ ap (λ xs. x ∷ xs) (set_behind shared slots i s)

pub length_all : (shared slots : List Slot) → length (shared ++ slots) ≡ length shared + length slots
length_all shared slots = length-append shared slots

-- the slot at a place, which is in front or behind
pub in_front : (shared slots : List Slot) (i : ℕ) → i < length shared → slot_at (shared ++ slots) i ≡ slot_at shared i
in_front shared slots i lt = get_or_append_left shared slots no_slot i lt

-- what a hint leads to is a slot of the table's own
pub by_own_hint : (index : Index) (shared slots : List Slot) (q i : ℕ) → IsIndexed (length shared) index (shared ++ slots) → i < length slots
    → (slot_at slots i).number ≡ q → get (content index (shared ++ slots)) q ≡ Some (slot_at slots i).page
by_own_hint index shared slots q i h lt e =
    let all = length_all shared slots in
    by_hint (length shared) index (shared ++ slots) q (length shared + i) h (omega arith) (omega (arith, all, lt))
    (ap (λ (t : Slot). t.number) (at_own shared slots i) ∙ e)
    ∙ ap (λ (t : Slot). Some t.page) (at_own shared slots i)

-- the index leads to each slot of the table's own by its number
pub own_found : (index : Index) (shared slots : List Slot) (i : ℕ) → IsIndexed (length shared) index (shared ++ slots) → i < length slots
    → get index (slot_at slots i).number ≡ Some (length shared + i)
own_found index shared slots i h lt =
    let all = length_all shared slots in
    ap (λ (t : Slot). get index t.number) (sym (at_own shared slots i)) ∙ h.found (length shared + i) (omega arith) (omega (arith, all, lt))

-- ---- a shared page

module _ (k : ℕ) (index : Index) (slots : List Slot) (q i : ℕ) (h : IsIndexed k index slots) (here : get index q ≡ Some i) (shared : i < k) where
  -- a slot of the table's own is of another number
  not_shared : (j : ℕ) → k ≤ j → j < length slots → (slot_at slots j).number ≢ q
  not_shared j low lt e =
      let same = same_Some j i (sym (h.found j low lt) ∙ ap (get index) e ∙ here) in absurd (omega (arith, same, low, shared))

  -- it is taken away
  pub indexed_dropped : IsIndexed k (remove index q) slots
  indexed_dropped = record {
    placed = λ r j e. elim (eqb_tells r q) [
      | inl same ↦ absurd (None_not_Some j (sym (get-remove-same index q) ∙ ap (get (remove index q)) (sym same.1) ∙ e))
      | inr other ↦ h.placed r j (sym (get-remove-other index q r other.1) ∙ e)
    ];
    found = λ j low lt. get-remove-other index q (slot_at slots j).number (not_shared j low lt) ∙ h.found j low lt;
  }

  pub content_dropped : content (remove index q) slots ≡ remove (content index slots) q
  content_dropped =
      same_around _ _ q (content_none (remove index q) slots q (get-remove-same index q) ∙ sym (get-remove-same (content index slots) q))
      (λ r n. same_here (remove index q) index slots slots r (get-remove-other index q r n) (λ j e. refl) ∙ sym (get-remove-other (content index slots) q r n))

  -- the table gets a slot of its own for it
  module _ (s : Slot) (number : s.number ≡ q) (page : s.page ≡ (slot_at slots i).page) where
    pub indexed_owned : IsIndexed k (insert index q (length slots)) (slots ++ s ∷ [])
    indexed_owned = record {
      placed = λ r j e. elim (eqb_tells r q) [
        | inl same ↦
            let at : length slots ≡ j = same_Some (length slots) j (sym (get-insert-same index q (length slots)) ∙ sym (ap (get (insert index q (length slots))) same.1) ∙ e) in
            let long = length_push slots s in
            (omega arith, ap (λ (t : Slot). t.number) (get_or_push slots s no_slot j at) ∙ number ∙ sym same.1)
        | inr other ↦
            let old = h.placed r j (sym (get-insert-other index q (length slots) r other.1) ∙ e) in
            let lt = old.0 in
            let long = length_push slots s in
            (omega arith, ap (λ (t : Slot). t.number) (get_or_append_left slots (s ∷ []) no_slot j lt) ∙ old.1)
      ];
      found = λ j low lt. elim (eqb_tells j (length slots)) [
        | inl same ↦
            ap (λ (t : Slot). get (insert index q (length slots)) t.number) (get_or_push slots s no_slot j (sym same.1))
            ∙ ap (get (insert index q (length slots))) number ∙ get-insert-same index q (length slots) ∙ ap Some (sym same.1)
        | inr other ↦
            let long = length_push slots s in
            let less : j < length slots = omega (arith, other.1) in
            ap (λ (t : Slot). get (insert index q (length slots)) t.number) (get_or_append_left slots (s ∷ []) no_slot j less)
            ∙ get-insert-other index q (length slots) (slot_at slots j).number (not_shared j low less) ∙ h.found j low less
      ];
    }

    pub content_owned : content (insert index q (length slots)) (slots ++ s ∷ []) ≡ content index slots
    content_owned =
        same_around _ _ q
        (content_at (insert index q (length slots)) (slots ++ s ∷ []) q (length slots) (get-insert-same index q (length slots))
        ∙ ap (λ (t : Slot). Some t.page) (get_or_push slots s no_slot (length slots) refl) ∙ ap Some page ∙ sym (content_at index slots q i here))
        (λ r n. same_here (insert index q (length slots)) index (slots ++ s ∷ []) slots r (get-insert-other index q (length slots) r n)
        (λ j e. ap (λ (t : Slot). t.page) (get_or_append_left slots (s ∷ []) no_slot j (h.placed r j e).0)))

-- ---- how many slots are the table's own

-- there are as many numbers as slots from place k on; the index leads to each of these by its number
count_own : (m k : ℕ) (index : Index) (slots : List Slot) → ((j : ℕ) → k ≤ j → j < k + m → get index (slot_at slots j).number ≡ Some j) → m ≤ len index
count_own zero k index slots found = omega arith
count_own (suc m) k index slots found =
    let last : ℕ = (slot_at slots (k + m)).number in
    let there = found (k + m) (omega arith) (omega arith) in
    let one = len-removed index last (k + m) there in
    let rest = count_own m k (remove index last) slots
    (λ j low lt.
    let here = found j low (omega (arith, lt)) in
    let n : (slot_at slots j).number ≢ last = λ e. absurd (let same = same_Some j (k + m) (sym here ∙ ap (get index) e ∙ there) in omega (arith, same, lt)) in
    get-remove-other index last (slot_at slots j).number n ∙ here) in
    omega (arith, one, rest)

pub own_few : (index : Index) (shared slots : List Slot) → IsIndexed (length shared) index (shared ++ slots) → length slots ≤ len index
own_few index shared slots h =
    let all = length_all shared slots in
    count_own (length slots) (length shared) index (shared ++ slots) (λ j low lt. h.found j low (omega (arith, all, lt)))

-- where a page is shared there are fewer of its own than pages
pub own_fewer : (index : Index) (shared slots : List Slot) (q i : ℕ) → IsIndexed (length shared) index (shared ++ slots) → get index q ≡ Some i
    → i < length shared → length slots < len index
own_fewer index shared slots q i h here low =
    let one = len-removed index q i here in
    let rest = own_few (remove index q) shared slots (indexed_dropped (length shared) index (shared ++ slots) q i h here low) in
    omega (arith, one, rest)

-- ---- a table's own slots

-- a number that has a page has a slot
pub has_own_slot : (index : Index) (slots : List Slot) (q : ℕ) → IsSome (get (content index slots) q) → IsSome (get index q)
has_own_slot index slots q there =
    elim (get index q) as (λ o. get index q ≡ o → IsSome o) [
      | None ↦ λ e. absurd (no_some (get (content index slots) q) (content_none index slots q e) there)
      | Some i ↦ λ e. refl
    ] refl

module _ (index : Index) (shared slots : List Slot) (room q i : ℕ) (s : Slot) (h : IsTable index shared slots room) (here : get index q ≡ Some (length shared + i)) (number : s.number ≡ q) where
  all_set : set (shared ++ slots) (length shared + i) s ≡ shared ++ set slots i s
  all_set = set_behind shared slots i s

  pub own_table_set : IsTable index shared (set slots i s) room
  own_table_set = record {
    indexed =
        subst (λ (xs : List Slot). IsIndexed (length shared) index xs) all_set
        (indexed_set (length shared) index (shared ++ slots) q (length shared + i) s h.indexed here number);
    room = h.room;
    few = h.few;
  }

  pub own_content_set : content index (shared ++ set slots i s) ≡ insert (content index (shared ++ slots)) q s.page
  own_content_set =
      ap (content index) (sym all_set) ∙ content_set (length shared) index (shared ++ slots) q (length shared + i) s h.indexed here number
