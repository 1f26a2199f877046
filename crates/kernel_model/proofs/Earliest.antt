-- The earliest moment is the earliest.
--     earliest_is      it is
--     earliest_is_one      there is no other
--     earliest_least, earliest_none, earliest_there      what it says of each value
use Rattle.std.proofs.Common.{◌≡◌, ℕ, zero, suc, ◌<◌, ◌≤◌, true, false, not, Option, Some, None, is_some, refl, sym, ap, subst, ◌∙◌, arith}
use Rattle.std.proofs.lemmas.Bool.{ltb-true, ltb-false}
use Rattle.std.specs.Ordering.{nat_cmp}
use Rattle.std.specs.FinMap.{FinMap, get}
use Rattle.maps.specs.Maps.{passes, least_key, least_key-entry, least_key-none}
use Rattle.kernel_model.specs.Earliest.{earliest, is_before, is_first, moment_at, moment_of_value, IsEarliest}
use Rattle.kernel_model.proofs.Tests.{none_is_no, not_true, same_some}

before_is : (moment : ℕ) (o : Option ℕ) → is_before moment o ≡ true → (other : ℕ) × (o ≡ Some other) × (other < moment)
before_is moment None h = absurd (not_true h)
before_is moment (Some other) h = (other, refl, ltb-true other moment h)

not_before : (moment other : ℕ) (o : Option ℕ) → o ≡ Some other → is_before moment o ≡ false → moment ≤ other
not_before moment other None is h = absurd (none_is_no other is)
not_before moment other (Some n) is h = subst (λ k. moment ≤ k) (same_some n other is) (ltb-false n moment h)

module _ {X : Type 0} (f : X → Option ℕ) (m : FinMap nat_cmp X) where
  -- where one is not the first there is one before it
  one_before : (moment : ℕ) (o : Option ℕ) → least_key (λ k x. is_before moment (f x)) m ≡ o → not (is_some o) ≡ false
      → (k : ℕ) × (x : X) × (other : ℕ) × (get m k ≡ Some x) × (f x ≡ Some other) × (other < moment)
  one_before moment None e h = absurd (not_true (sym h))
  one_before moment (Some k) e h =
      let entry = least_key-entry (λ j x. is_before moment (f x)) m k e in
      let before = before_is moment (f entry.0) entry.2 in
      (k, entry.0, before.0, entry.1, before.1, before.2)

  -- where no value is the first none has a moment: there would be one before it, and so on
  no_descent : ((q : ℕ) → passes (λ k x. is_first f m (f x)) q (get m q) ≡ false) → (n k : ℕ) (x : X) (moment : ℕ) → get m k ≡ Some x
      → f x ≡ Some moment → moment < n → ⊥
  no_descent none zero k x moment there is below = omega (arith, below)
  no_descent none (suc n) k x moment there is below =
      let first : is_first f m (Some moment) ≡ false =
      sym (ap (is_first f m) is) ∙ sym (ap (passes (λ j y. is_first f m (f y)) k) there) ∙ none k in
      let before = one_before moment (least_key (λ j y. is_before moment (f y)) m) refl first in
      no_descent none n before.0 before.1 before.2 before.3 before.4 (omega (arith, below, before.5))

  none_first : ((q : ℕ) → passes (λ k x. is_first f m (f x)) q (get m q) ≡ false) → IsEarliest f m None
  none_first none k x there =
      elim (f x) as (λ o. f x ≡ o → o ≡ None) [
        | None ↦ λ e. refl
        | Some moment ↦ λ e. absurd (no_descent none (suc moment) k x moment there e (omega arith))
      ] refl

  -- a value that is the first has the earliest moment
  first_is : (k : ℕ) (x : X) (o : Option ℕ) → get m k ≡ Some x → f x ≡ o → is_first f m o ≡ true → IsEarliest f m o
  first_is k x None there is first = absurd (not_true first)
  first_is k x (Some moment) there is first = (
    (k, x, there, is),
    λ j y other at has. not_before moment other (f y) has
        (sym (ap (passes (λ i z. is_before moment (f z)) j) at) ∙ least_key-none (λ i z. is_before moment (f z)) m (no_key first) j),
  ) where
    no_key : not (is_some (least_key (λ i z. is_before moment (f z)) m)) ≡ true → least_key (λ i z. is_before moment (f z)) m ≡ None
    no_key h =
        elim (least_key (λ i z. is_before moment (f z)) m) as (λ o. not (is_some o) ≡ true → o ≡ None) [
          | None ↦ λ _. refl
          | Some i ↦ λ e. absurd (not_true e)
        ] h

  pub earliest_is : IsEarliest f m (earliest f m)
  unfolding earliest
  earliest_is =
      elim (least_key (λ k x. is_first f m (f x)) m) as (λ o. least_key (λ k x. is_first f m (f x)) m ≡ o → IsEarliest f m (moment_at f m o)) [
        | None ↦ λ e. none_first (least_key-none (λ k x. is_first f m (f x)) m e)
        | Some k ↦ λ e. (
            let entry = least_key-entry (λ j x. is_first f m (f x)) m k e in
            subst (λ o. IsEarliest f m (moment_of_value f o)) (sym entry.1) (first_is k entry.0 (f entry.0) entry.1 refl entry.2))
      ] refl

  one_earliest : (a b : Option ℕ) → IsEarliest f m a → IsEarliest f m b → a ≡ b
  one_earliest None None one other = refl
  one_earliest None (Some b) one other = absurd (none_is_no b (sym (one other.0.0 other.0.1 other.0.2) ∙ other.0.3))
  one_earliest (Some a) None one other = absurd (none_is_no a (sym (other one.0.0 one.0.1 one.0.2) ∙ one.0.3))
  one_earliest (Some a) (Some b) one other =
      let up = one.1 other.0.0 other.0.1 b other.0.2 other.0.3 in
      let down = other.1 one.0.0 one.0.1 a one.0.2 one.0.3 in
      ap Some (omega (arith, up, down))

  pub earliest_is_one : (o : Option ℕ) → IsEarliest f m o → o ≡ earliest f m
  earliest_is_one o is = one_earliest o (earliest f m) is earliest_is

  -- ---- what it says of each value

  pub earliest_least : (k : ℕ) (x : X) (moment : ℕ) → get m k ≡ Some x → f x ≡ Some moment → (least : ℕ) × (earliest f m ≡ Some least) × (least ≤ moment)
  earliest_least k x moment there is =
      elim (earliest f m) as (λ o. IsEarliest f m o → (least : ℕ) × (o ≡ Some least) × (least ≤ moment)) [
        | None ↦ λ none. absurd (none_is_no moment (sym (none k x there) ∙ is))
        | Some least ↦ λ some. (least, refl, some.1 k x moment there is)
      ] earliest_is

  pub earliest_none : earliest f m ≡ None → (k : ℕ) (x : X) → get m k ≡ Some x → f x ≡ None
  earliest_none none = subst (IsEarliest f m) none earliest_is

  pub earliest_there : (moment : ℕ) → earliest f m ≡ Some moment → (k : ℕ) × (x : X) × (get m k ≡ Some x) × (f x ≡ Some moment)
  earliest_there moment is = (subst (IsEarliest f m) is earliest_is).0
