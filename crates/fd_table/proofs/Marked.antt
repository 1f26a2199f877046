-- One bit a number: what a change of one leaves, and where the lowest is that isn't set.
--     none_past      a number behind the words has no bit
--     mark_set, marks_kept      the bit of a number, and those of the others, where its word is another
--     lowest_in, marked_on      the lowest bit that isn't set is that of the first word that isn't all ones;  the next word is all ones
--     lowest_mark_in, unmarked_on      the same of the lowest bit that is set
--     none_marked      at first no bit is set
--     marked_insert, marked_again, marked_remove      the bits are those of the table after each change of it
--     empty_unless_marked      where no bit is set no number has a descriptor
--     lowest_free, full_exactly      the lowest number without a bit is the lowest free one;  there is none exactly where the table is full
use Rattle.std.proofs.Common.{◌≡◌, ◌≢◌, ◌↔◌, IfSome, IfNone, IsNone, T, false, ℕ, ◌+◌, ◌-◌, ◌*◌, ◌/◌, ◌%◌, ◌^◌, ◌<◌, ◌≤◌, true, cond, inl, inr, List, length, get_or, set, replicate, Option, None, Some, IsSome, is_some, w64, refl, sym, ap, subst, ◌∙◌, arith}
use Rattle.std.proofs.lemmas.Bool.Decides.{eqb_tells, leb_tells}
use Rattle.std.proofs.lemmas.List.{get_or-set_same, get_or-set_other, get_or-replicate, get_or_past}
use Rattle.std.proofs.lemmas.Nat.Bits.{bit_at-trailing_ones, bit_at-trailing_zeros, bit_at-zero, bit_at_ones}
use Rattle.std.specs.Int.{bit_at, trailing_ones, trailing_zeros}
use Rattle.std.specs.Ordering.{nat_cmp}
use Rattle.std.specs.FinMap.{empty, get, insert, remove, get-empty}
use Rattle.maps.specs.Maps.{get-insert-same, get-insert-other, get-remove-same, get-remove-other, same_numbers}
use Rattle.abi_base.specs.declared.limits.TheConstants.{MOST_DESCRIPTORS}
use Rattle.abi_types.specs.declared.descriptor.Descriptor.{Descriptor}
use Rattle.fd_table.specs.Marks.{AreMarked, mark_of}
use Rattle.fd_table.specs.Sizes.{TakesBelow, full_if_taken}
use Rattle.fd_table.specs.Table.{IsFull, IsLowestFree, IsTable, Table, lowest_unless_full}

not_true : false ≡ true → ⊥
not_true e = subst T (sym e) tt

-- ---- one bit

pub none_past : (words : List ℕ) (n : ℕ) → length words ≤ n / 64 → mark_of words n ≡ 0
none_past words n past = ap (λ x. bit_at x (n % 64)) (get_or_past words (n / 64) 0 past) ∙ bit_at-zero (n % 64)

pub mark_set : (words : List ℕ) (n word : ℕ) → n / 64 < length words → mark_of (set words (n / 64) word) n ≡ bit_at word (n % 64)
mark_set words n word within = ap (λ x. bit_at x (n % 64)) (get_or-set_same words (n / 64) word 0 within)

pub marks_kept : (words : List ℕ) (n word : ℕ) → n / 64 < length words
    → ((i : ℕ) → i < 64 → i ≢ n % 64 → bit_at word i ≡ bit_at (get_or words (n / 64) 0) i)
    → (k : ℕ) → k ≢ n → mark_of (set words (n / 64) word) k ≡ mark_of words k
marks_kept words n word within kept k other =
    elim (eqb_tells (k / 64) (n / 64)) [
      | inl is ↦ (
          let same = is.1 in
          let differs : k % 64 ≢ n % 64 = λ e. (let rest = e in other (omega (arith, same, rest))) in
          ap (λ p. bit_at (get_or (set words (n / 64) word) p 0) (k % 64)) same
          ∙ ap (λ x. bit_at x (k % 64)) (get_or-set_same words (n / 64) word 0 within)
          ∙ kept (k % 64) (omega arith) differs
          ∙ ap (λ p. bit_at (get_or words p 0) (k % 64)) (sym same))
      | inr apart ↦ ap (λ x. bit_at x (k % 64)) (get_or-set_other words (n / 64) (k / 64) word 0 apart.1)
    ]

-- ---- the lowest

mark_at : (words : List ℕ) (place i : ℕ) → i < 64 → mark_of words (place * 64 + i) ≡ bit_at (get_or words place 0) i
mark_at words place i less =
    let word : (place * 64 + i) / 64 ≡ place = omega (arith, less) in
    let bit : (place * 64 + i) % 64 ≡ i = omega (arith, less) in
    ap (λ p. bit_at (get_or words p 0) ((place * 64 + i) % 64)) word ∙ ap (bit_at (get_or words place 0)) bit

-- the numbers of the words before, and of a part of this one, where each bit is b
marked_below : (b : ℕ) (words : List ℕ) (place most : ℕ) → most ≤ 64 → ((k : ℕ) → k < place * 64 → mark_of words k ≡ b)
    → ((i : ℕ) → i < most → bit_at (get_or words place 0) i ≡ b) → (k : ℕ) → k < place * 64 + most → mark_of words k ≡ b
marked_below b words place most few before bits k less =
    elim (leb_tells (place * 64) k) [
      | inr under ↦ before k under.1
      | inl from ↦ (
          let above = from.1 in
          let is : k ≡ place * 64 + (k - place * 64) = omega (arith, above) in
          ap (mark_of words) is ∙ mark_at words place (k - place * 64) (omega (arith, few, less, above)) ∙ bits (k - place * 64) (omega (arith, less, above)))
    ]

pub lowest_in : (words : List ℕ) (place word : ℕ) → word ≡ get_or words place 0 → word + 1 < 2 ^ 64 → ((k : ℕ) → k < place * 64 → mark_of words k ≡ 1)
    → (mark_of words (place * 64 + trailing_ones w64 word) ≡ 0) × ((k : ℕ) → k < place * 64 + trailing_ones w64 word → mark_of words k ≡ 1)
lowest_in words place word is some before =
    let lowest = bit_at-trailing_ones w64 word some in
    let less = lowest.0 in (
      mark_at words place (trailing_ones w64 word) less ∙ ap (λ x. bit_at x (trailing_ones w64 word)) (sym is) ∙ lowest.1,
      marked_below 1 words place (trailing_ones w64 word) (omega (arith, less)) before
          (λ i under. ap (λ x. bit_at x i) (sym is) ∙ lowest.2 i under),
    )

pub marked_on : (words : List ℕ) (place word : ℕ) → word ≡ get_or words place 0 → word ≡ 2 ^ 64 - 1 → ((k : ℕ) → k < place * 64 → mark_of words k ≡ 1)
    → (k : ℕ) → k < (place + 1) * 64 → mark_of words k ≡ 1
marked_on words place word is ones before k less =
    marked_below 1 words place 64 (omega arith) before (λ i under. ap (λ x. bit_at x i) (sym is ∙ ones) ∙ bit_at_ones 64 i under) k (omega (arith, less))

pub lowest_mark_in : (words : List ℕ) (place : ℕ) → 0 < get_or words place 0 → get_or words place 0 < 2 ^ 64 → ((k : ℕ) → k < place * 64 → mark_of words k ≡ 0)
    → (mark_of words (place * 64 + trailing_zeros w64 (get_or words place 0)) ≡ 1)
    × ((k : ℕ) → k < place * 64 + trailing_zeros w64 (get_or words place 0) → mark_of words k ≡ 0)
lowest_mark_in words place some fits before =
    let word = get_or words place 0 in
    let lowest = bit_at-trailing_zeros w64 word some fits in
    let less = lowest.0 in (
      mark_at words place (trailing_zeros w64 word) less ∙ lowest.1,
      marked_below 0 words place (trailing_zeros w64 word) (omega (arith, less)) before lowest.2,
    )

pub unmarked_on : (words : List ℕ) (place : ℕ) → get_or words place 0 ≡ 0 → ((k : ℕ) → k < place * 64 → mark_of words k ≡ 0)
    → (k : ℕ) → k < (place + 1) * 64 → mark_of words k ≡ 0
unmarked_on words place none before k less =
    marked_below 0 words place 64 (omega arith) before (λ i under. ap (λ x. bit_at x i) none ∙ bit_at-zero i) k (omega (arith, less))

-- ---- the bits of a table

pub none_marked : AreMarked (replicate 16 0) empty
none_marked k less =
    ap (λ x. bit_at x (k % 64)) (get_or-replicate 16 (k / 64) 0 0 (omega (arith, less))) ∙ bit_at-zero (k % 64)
    ∙ sym (ap (λ o. cond (is_some o) 1 0) (get-empty nat_cmp k))

module _ (words new : List ℕ) (m : Table) (n : ℕ) (marked : AreMarked words m) (others : (k : ℕ) → k ≢ n → mark_of new k ≡ mark_of words k) where
  pub marked_insert : (d : Descriptor) → mark_of new n ≡ 1 → AreMarked new (insert m n d)
  marked_insert d own k less =
      elim (eqb_tells k n) [
        | inl is ↦ subst (λ q. mark_of new q ≡ cond (is_some (get (insert m n d) q)) 1 0) (sym is.1)
            (own ∙ sym (ap (λ o. cond (is_some o) 1 0) (get-insert-same m n d)))
        | inr other ↦ others k other.1 ∙ marked k less ∙ sym (ap (λ o. cond (is_some o) 1 0) (get-insert-other m n d k other.1))
      ]

  pub marked_remove : mark_of new n ≡ 0 → AreMarked new (remove m n)
  marked_remove own k less =
      elim (eqb_tells k n) [
        | inl is ↦ subst (λ q. mark_of new q ≡ cond (is_some (get (remove m n) q)) 1 0) (sym is.1)
            (own ∙ sym (ap (λ o. cond (is_some o) 1 0) (get-remove-same m n)))
        | inr other ↦ others k other.1 ∙ marked k less ∙ sym (ap (λ o. cond (is_some o) 1 0) (get-remove-other m n k other.1))
      ]

-- a number that has a descriptor gets another
pub marked_again : (words : List ℕ) (m : Table) (n : ℕ) → AreMarked words m → (d : Descriptor) → IsSome (get m n) → AreMarked words (insert m n d)
marked_again words m n marked d there k less =
    elim (eqb_tells k n) [
      | inl is ↦ marked k less ∙ ap (λ b. cond b 1 0) (ap (λ q. is_some (get m q)) is.1 ∙ there
          ∙ sym (ap (λ q. is_some (get (insert m n d) q)) is.1 ∙ ap is_some (get-insert-same m n d)))
      | inr other ↦ marked k less ∙ sym (ap (λ o. cond (is_some o) 1 0) (get-insert-other m n d k other.1))
    ]

-- ---- the lowest free number

-- the bit of a number whose descriptor, if it has one, is this
abbrev bit_of : {X : Type 0} → Option X → ℕ
bit_of o = cond (is_some o) 1 0

none_if_unmarked : {X : Type 0} (o : Option X) → bit_of o ≡ 0 → o ≡ None
none_if_unmarked None is = refl
none_if_unmarked (Some x) is = absurd (omega (arith, is))

some_if_marked : {X : Type 0} (o : Option X) → bit_of o ≡ 1 → IsSome o
some_if_marked None is = absurd (omega (arith, is))
some_if_marked (Some x) is = refl

module _ (words : List ℕ) (m : Table) (marked : AreMarked words m) where
  taken_below : (n : ℕ) → n ≤ MOST_DESCRIPTORS → ((k : ℕ) → k < n → mark_of words k ≡ 1) → TakesBelow n m
  taken_below n few all k less = some_if_marked (get m k) (sym (marked k (omega (arith, few, less))) ∙ all k less)

  pub lowest_free : (o : Option ℕ) → IfSome o (λ n. n < MOST_DESCRIPTORS) → IfSome o (λ n. mark_of words n ≡ 0)
      → IfSome o (λ n. (k : ℕ) → k < n → mark_of words k ≡ 1) → IfSome o (λ n. IsLowestFree m n)
  lowest_free None less own lower = tt
  lowest_free (Some n) less own lower =
      (less, none_if_unmarked (get m n) (sym (marked n less) ∙ own), taken_below n (omega (arith, less)) lower)

  pub full_exactly : IsTable m → (o : Option ℕ) → IfSome o (λ n. n < MOST_DESCRIPTORS) → IfSome o (λ n. mark_of words n ≡ 0)
      → IfSome o (λ n. (k : ℕ) → k < n → mark_of words k ≡ 1) → IfNone o ((k : ℕ) → k < MOST_DESCRIPTORS → mark_of words k ≡ 1) → IsNone o ↔ IsFull m
  full_exactly table None less own lower all =
      (λ _. full_if_taken MOST_DESCRIPTORS m table (taken_below MOST_DESCRIPTORS (omega arith) all), λ _. refl)
  full_exactly table (Some n) less own lower all =
      (λ none. absurd (not_true (sym none)), λ full. absurd (lowest_unless_full m n table (lowest_free (Some n) less own lower) full))

-- where no number is marked none has a descriptor
pub empty_unless_marked : (words : List ℕ) (m : Table) → AreMarked words m → IsTable m → ((k : ℕ) → k < MOST_DESCRIPTORS → mark_of words k ≡ 0) → m ≡ empty
empty_unless_marked words m marked table none =
    same_numbers m empty (λ k. elim (get m k) as (λ o. get m k ≡ o → o ≡ None) [
      | None ↦ λ _. refl
      | Some d ↦ λ e.
          let less = table k (ap is_some e) in
          let own = sym (ap (λ (o : Option Descriptor). bit_of o) e) ∙ sym (marked k less) ∙ none k less in
          absurd (omega (arith, own))
    ] refl ∙ sym (get-empty nat_cmp k))
