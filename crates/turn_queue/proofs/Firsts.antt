-- The first ticket of a process.
--     first_entry, first_most, some_first, is_first, no_first      what its number says, and where it is one
--     first_put_other, first_put_some, first_put_none, first_less      after a ticket came or went
use Rattle.std.proofs.Common.{◌≡◌, ◌≢◌, ◌⊎◌, ℕ, ◌+◌, ◌<◌, ◌≤◌, ◌==◌, Bool, true, false, T, None, Some, is_some, inl, inr, refl, sym, ap, subst, ◌∙◌, arith}
use Rattle.std.proofs.lemmas.Bool.Decides.{eqb_tells}
use Rattle.std.specs.FinMap.{FinMap, get, insert, remove}
use Rattle.std.specs.Option.{unwrap_or}
use Rattle.std.specs.Ordering.{nat_cmp}
use Rattle.maps.specs.Halves.{not_true}
use Rattle.maps.specs.Maps.{passes, least_key-entry, least_key-least, least_key-none, least_key_is, least_key_is_none, least_same, get-insert-same, get-insert-other, get-remove-same, get-remove-other}
use Rattle.turn_queue.specs.Numbered.{first_of}

pub not_None : {A : Type 0} (x : A) → None ≢ Some x
not_None x e = subst T (ap is_some (sym e)) tt

pub same_Some : {A : Type 0} (x y : A) → Some x ≡ Some y → x ≡ y
same_Some x y e = ap (λ o. unwrap_or o x) e

pub same_by : (a b : ℕ) → (a == b) ≡ true → a ≡ b
same_by a b e = elim (eqb_tells a b) [ inl same ↦ same.1 | inr other ↦ absurd (not_true (sym other.0 ∙ e)) ]

pub by_same : (a b : ℕ) → a ≡ b → (a == b) ≡ true
by_same a b e = elim (eqb_tells a b) [ inl same ↦ same.0 | inr other ↦ absurd (other.1 e) ]

pub by_other : (a b : ℕ) → a ≢ b → (a == b) ≡ false
by_other a b n = elim (eqb_tells a b) [ inl same ↦ absurd (n same.1) | inr other ↦ other.0 ]

module _ {T : Type 0} (process : T → ℕ) where
  abbrev of : ℕ → ℕ → T → Bool
  of p n ticket = process ticket == p

  pub first_entry : (m : FinMap nat_cmp T) (p n : ℕ) → first_of process p m ≡ Some n → (x : T) × (get m n ≡ Some x) × (process x ≡ p)
  first_entry m p n is = let entry = least_key-entry (of p) m n is in (entry.0, entry.1, same_by _ _ entry.2)

  passes_at : (m : FinMap nat_cmp T) (p k : ℕ) (x : T) → get m k ≡ Some x → process x ≡ p → passes (of p) k (get m k) ≡ true
  passes_at m p k x there same = ap (passes (of p) k) there ∙ by_same _ _ same

  pub first_most : (m : FinMap nat_cmp T) (p n : ℕ) → first_of process p m ≡ Some n → (k : ℕ) (x : T) → get m k ≡ Some x → process x ≡ p → n ≤ k
  first_most m p n is k x there same = least_key-least (of p) m n is k (passes_at m p k x there same)

  pub none_first : (m : FinMap nat_cmp T) (p : ℕ) → first_of process p m ≡ None → (k : ℕ) (x : T) → get m k ≡ Some x → process x ≢ p
  none_first m p is k x there same = not_true (sym (least_key-none (of p) m is k) ∙ passes_at m p k x there same)

  pub some_first : (m : FinMap nat_cmp T) (k : ℕ) (x : T) → get m k ≡ Some x → (n : ℕ) × (first_of process (process x) m ≡ Some n)
  some_first m k x there =
      elim (first_of process (process x) m) as (λ o. first_of process (process x) m ≡ o → (n : ℕ) × (o ≡ Some n)) [
        | None ↦ λ e. absurd (none_first m (process x) e k x there refl)
        | Some n ↦ λ e. (n, refl)
      ] refl

  pub is_first : (m : FinMap nat_cmp T) (p n : ℕ) (x : T) → get m n ≡ Some x → process x ≡ p
      → ((k : ℕ) (y : T) → get m k ≡ Some y → process y ≡ p → n ≤ k) → first_of process p m ≡ Some n
  is_first m p n x there same most =
      least_key_is (of p) m n (passes_at m p n x there same)
      (λ k h. elim (get m k) as (λ o. get m k ≡ o → passes (of p) k o ≡ true → n ≤ k) [
        | None ↦ λ _ passed. absurd (not_true passed)
        | Some y ↦ λ e passed. most k y e (same_by _ _ passed)
      ] refl h)

  pub no_first : (m : FinMap nat_cmp T) (p : ℕ) → ((k : ℕ) (y : T) → get m k ≡ Some y → process y ≢ p) → first_of process p m ≡ None
  no_first m p none =
      least_key_is_none (of p) m
      (λ k. elim (get m k) as (λ o. get m k ≡ o → passes (of p) k o ≡ false) [
        | None ↦ λ _. refl
        | Some y ↦ λ e. by_other _ _ (none k y e)
      ] refl)

  pub none_next : (m : FinMap nat_cmp T) (next : ℕ) → ((k : ℕ) (y : T) → get m k ≡ Some y → k < next) → get m next ≡ None
  none_next m next below =
      elim (get m next) as (λ o. get m next ≡ o → o ≡ None) [
        | None ↦ λ _. refl
        | Some y ↦ λ e. let before = below next y e in absurd (omega (arith, before))
      ] refl

  module _ (m : FinMap nat_cmp T) (next : ℕ) (x : T) (below : (k : ℕ) (y : T) → get m k ≡ Some y → k < next) where
    pub first_put_other : (q : ℕ) → process x ≢ q → first_of process q (insert m next x) ≡ first_of process q m
    first_put_other q other =
        least_same (of q) (of q) (insert m next x) m
        (λ k. elim (eqb_tells k next) [
          | inl same ↦ ap (λ j. passes (of q) k (get (insert m next x) j)) same.1 ∙ ap (passes (of q) k) (get-insert-same m next x) ∙ by_other _ _ other
              ∙ sym (ap (λ j. passes (of q) k (get m j)) same.1 ∙ ap (passes (of q) k) (none_next m next below))
          | inr apart ↦ ap (passes (of q) k) (get-insert-other m next x k apart.1)
        ])

    put_at : (k : ℕ) (y : T) → get (insert m next x) k ≡ Some y → (get m k ≡ Some y) ⊎ ((k ≡ next) × (y ≡ x))
    put_at k y there =
        elim (eqb_tells k next) [
          | inl same ↦ inr (same.1, same_Some _ _ (sym there ∙ ap (get (insert m next x)) same.1 ∙ get-insert-same m next x))
          | inr apart ↦ inl (sym (get-insert-other m next x k apart.1) ∙ there)
        ]

    pub first_put_some : (q n : ℕ) → first_of process q m ≡ Some n → first_of process q (insert m next x) ≡ Some n
    first_put_some q n is =
        let entry = first_entry m q n is in
        let before = below n entry.0 entry.1 in
        is_first (insert m next x) q n entry.0 (get-insert-other m next x n (λ e. omega (arith, e, before)) ∙ entry.1) entry.2
        (λ k y there same. elim (put_at k y there) [
          | inl old ↦ first_most m q n is k y old same
          | inr new ↦ let at = new.0 in omega (arith, at, before)
        ])

    pub first_put_none : first_of process (process x) m ≡ None → first_of process (process x) (insert m next x) ≡ Some next
    first_put_none none =
        is_first (insert m next x) (process x) next x (get-insert-same m next x) refl
        (λ k y there same. elim (put_at k y there) [
          | inl old ↦ absurd (none_first m (process x) none k y old same)
          | inr new ↦ let at = new.0 in omega (arith, at)
        ])

    pub put_below : (k : ℕ) (y : T) → get (insert m next x) k ≡ Some y → k < next + 1
    put_below k y there =
        elim (put_at k y there) [
          | inl old ↦ let before = below k y old in omega (arith, before)
          | inr new ↦ let at = new.0 in omega (arith, at)
        ]

  pub first_less : (m : FinMap nat_cmp T) (n : ℕ) (x : T) → get m n ≡ Some x → (q : ℕ) → process x ≢ q → first_of process q (remove m n) ≡ first_of process q m
  first_less m n x there q other =
      least_same (of q) (of q) (remove m n) m
      (λ k. elim (eqb_tells k n) [
        | inl same ↦ ap (λ j. passes (of q) k (get (remove m n) j)) same.1 ∙ ap (passes (of q) k) (get-remove-same m n)
            ∙ sym (ap (λ j. passes (of q) k (get m j)) same.1 ∙ ap (passes (of q) k) there ∙ by_other _ _ other)
        | inr apart ↦ ap (passes (of q) k) (get-remove-other m n k apart.1)
      ])
