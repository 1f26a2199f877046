-- A table's own slots numbered from 0 on, once it has one for each of its pages.
--     lowered_none, lowered_more      none of them, and one more
--     lowered_all      all of them: the shared slots aren't needed
use Rattle.std.proofs.Common.{◌≡◌, ◌≢◌, ℕ, suc, ◌+◌, ◌-◌, ◌<◌, ◌≤◌, List, ◌++◌, length, cond, inl, inr, Some, None, IsSome, nat_lt, refl, sym, ap, subst, ◌∙◌, arith}
use Rattle.std.proofs.lemmas.Bool.{lt-ltb, lt-leb}
use Rattle.std.proofs.lemmas.Bool.Decides.{eqb_tells, leb_tells}
use Rattle.std.proofs.lemmas.Option.{same_Some}
use Rattle.std.specs.FinMap.{get, insert, len}
use Rattle.maps.specs.Maps.{get-insert-same, get-insert-other, len-insert_again, same_numbers}
use Rattle.page_table.specs.declared.slots.Slot.{Slot}
use Rattle.page_table.specs.Table.{IsIndexed, content, slot_at}
use Rattle.page_table.proofs.Tables.{Index, None_not_Some, at_own, content_at, content_none, length_all, own_fewer, own_found}

-- of the slots from place k on the first n have places that are k lower
pub record IsLowered (k : ℕ) (index : Index) (n : ℕ) (now : Index) : Type 0 where
  pub absent : (q : ℕ) → get index q ≡ None → get now q ≡ None
  pub there : (q m : ℕ) → get index q ≡ Some (k + m) → get now q ≡ Some (cond (nat_lt m n) m (k + m))
  pub count : len now ≡ len index

low : (m n a b : ℕ) → m < n → cond (nat_lt m n) a b ≡ a
low m n a b lt = ap (λ t. cond t a b) (lt-ltb m n lt)

high : (m n a b : ℕ) → n ≤ m → cond (nat_lt m n) a b ≡ b
high m n a b le = ap (λ t. cond t a b) (lt-leb (suc m) n (omega (arith, le)))

elsewhere : (m n a b : ℕ) → m ≢ n → cond (nat_lt m n) a b ≡ cond (nat_lt m (n + 1)) a b
elsewhere m n a b other =
    elim (leb_tells n m) [
      | inl above ↦ let le = above.1 in high m n a b le ∙ sym (high m (n + 1) a b (omega (arith, le, other)))
      | inr below ↦ let lt = below.1 in low m n a b lt ∙ sym (low m (n + 1) a b (omega (arith, lt)))
    ]

pub lowered_none : (k : ℕ) (index : Index) → IsLowered k index 0 index
lowered_none k index = record {
  absent = λ q e. e;
  there = λ q m e. e ∙ ap Some (sym (high m 0 m (k + m) (omega arith)));
  count = refl;
}

pub lowered_more : (index now next : Index) (shared slots : List Slot) (n : ℕ) → IsIndexed (length shared) index (shared ++ slots) → n < length slots
    → IsLowered (length shared) index n now → next ≡ insert now (slot_at slots n).number n → IsLowered (length shared) index (n + 1) next
lowered_more index now next shared slots n h lt before e =
    let number : ℕ = (slot_at slots n).number in
    let here = own_found index shared slots n h lt in
    record {
      absent = λ q none.
          let other : q ≢ number = λ f. None_not_Some _ (sym none ∙ ap (get index) f ∙ here) in
          ap (λ (x : Index). get x q) e ∙ get-insert-other now number n q other ∙ before.absent q none;
      there = λ q m there. elim (eqb_tells q number) [
        | inl same ↦
            let at : length shared + m ≡ length shared + n = same_Some _ _ (sym there ∙ ap (get index) same.1 ∙ here) in
            ap (λ (x : Index). get x q) e ∙ ap (get (insert now number n)) same.1 ∙ get-insert-same now number n
            ∙ ap Some (let is : n ≡ m = omega (arith, at) in is ∙ sym (low m (n + 1) m (length shared + m) (omega (arith, at))))
        | inr other ↦
            let apart : m ≢ n = λ f. other.1
            (sym (h.placed q (length shared + m) there).1 ∙ ap (λ i. (slot_at (shared ++ slots) (length shared + i)).number) f
            ∙ ap (λ (t : Slot). t.number) (at_own shared slots n)) in
            ap (λ (x : Index). get x q) e ∙ get-insert-other now number n q other.1 ∙ before.there q m there
            ∙ ap Some (elsewhere m n m (length shared + m) apart)
      ];
      count =
          ap (λ (x : Index). len x) e ∙ len-insert_again now number n (subst IsSome (sym (before.there number n here)) refl) ∙ before.count;
    }

-- a slot that the replaced number has is there
pub lowered_there : (index now : Index) (shared slots : List Slot) (n : ℕ) → IsIndexed (length shared) index (shared ++ slots) → n < length slots
    → IsLowered (length shared) index n now → IsSome (get now (slot_at slots n).number)
lowered_there index now shared slots n h lt before =
    subst IsSome (sym (before.there (slot_at slots n).number n (own_found index shared slots n h lt))) refl

module _ (index now : Index) (shared slots : List Slot) (h : IsIndexed (length shared) index (shared ++ slots)) (all : len index ≤ length slots) (after : IsLowered (length shared) index (length slots) now) where
  -- each number's slot is an own one
  is_own : (q i : ℕ) → get index q ≡ Some i → i ≡ length shared + (i - length shared)
  is_own q i e =
      elim (leb_tells (length shared) i) [
        | inl own ↦ let le = own.1 in omega (arith, le)
        | inr front ↦ let fewer = own_fewer index shared slots q i h e front.1 in absurd (omega (arith, fewer, all))
      ]

  within : (q m : ℕ) → get index q ≡ Some (length shared + m) → m < length slots
  within q m e =
      let lt = (h.placed q (length shared + m) e).0 in
      let long = length_all shared slots in
      omega (arith, lt, long)

  at_end : (q m : ℕ) → get index q ≡ Some (length shared + m) → get now q ≡ Some m
  at_end q m e = after.there q m e ∙ ap Some (low m (length slots) m (length shared + m) (within q m e))

  own_place : (q i : ℕ) → get index q ≡ Some i → get index q ≡ Some (length shared + (i - length shared))
  own_place q i e = e ∙ ap Some (is_own q i e)

  lowered_indexed : IsIndexed 0 now slots
  lowered_indexed = record {
    placed = λ q j e. elim (get index q) as (λ o. get index q ≡ o → (j < length slots) × ((slot_at slots j).number ≡ q)) [
      | None ↦ λ none. absurd (None_not_Some j (sym (after.absent q none) ∙ e))
      | Some i ↦ λ there.
          let own = own_place q i there in
          let at : i - length shared ≡ j = same_Some _ _ (sym (at_end q (i - length shared) own) ∙ e) in
          let lt = within q (i - length shared) own in (
            omega (arith, lt, at),
            ap (λ n. (slot_at slots n).number) (sym at) ∙ ap (λ (t : Slot). t.number) (sym (at_own shared slots (i - length shared)))
                ∙ (h.placed q (length shared + (i - length shared)) own).1,
          )
    ] refl;
    found = λ j le lt. at_end (slot_at slots j).number j (own_found index shared slots j h lt);
  }

  lowered_content : content now slots ≡ content index (shared ++ slots)
  lowered_content =
      same_numbers _ _ (λ q. elim (get index q) as (λ o. get index q ≡ o → get (content now slots) q ≡ get (content index (shared ++ slots)) q) [
        | None ↦ λ none. content_none now slots q (after.absent q none) ∙ sym (content_none index (shared ++ slots) q none)
        | Some i ↦ λ there.
            let own = own_place q i there in
            content_at now slots q (i - length shared) (at_end q (i - length shared) own)
            ∙ ap (λ (t : Slot). Some t.page) (sym (at_own shared slots (i - length shared)))
            ∙ sym (content_at index (shared ++ slots) q (length shared + (i - length shared)) own)
      ] refl)

  pub lowered_all : IsIndexed 0 now slots × (content now slots ≡ content index (shared ++ slots))
  lowered_all = (lowered_indexed, lowered_content)
