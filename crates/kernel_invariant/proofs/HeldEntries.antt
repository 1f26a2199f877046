-- Entries where something is done to one of them.
--     at_other, at_that, at_none, last_stays      what becomes of each
--     put_at      the entry is put in
--     there_is, flagged      an entry that is there;  one that passes a test is
--     stood_after, last_stood      one stands at its places, to which something was done before;  the greatest number stays nobody's
--     gathered_none, gathered_more, last_gathered      none notes anew where it stands, and one more does;  the greatest number stays nobody's
use Rattle.std.proofs.Common.{◌≡◌, ◌≢◌, ℕ, ◌-◌, ◌^◌, Bool, true, false, cond, inl, inr, List, Option, None, Some, IsSome, refl, sym, ap, subst, ◌∙◌}
use Rattle.std.proofs.lemmas.Bool.{eq-eqb}
use Rattle.std.proofs.lemmas.Bool.Decides.{eqb_tells}
use Rattle.std.specs.Prelude.{nat_eq}
use Rattle.std.specs.Option.{option_map}
use Rattle.std.specs.FinMap.{get, insert}
use Rattle.maps.specs.Maps.{get-insert-other, get-insert-same, insert-again}
use Rattle.kernel_model.proofs.Tests.{none_is_no, not_true, same_some}
use Rattle.kernel_parts.specs.Touching.{HasEach, HasNoLast}
use Rattle.wait_set.specs.declared.spot.Spot.{Spot}
use Rattle.wait_set.specs.declared.waiting.Waiting.{Waiting}
use Rattle.wait_set.specs.Waits.{WaitMap, flag, spread_at, stood, IsStood}
use Rattle.kernel_invariant.specs.Readiness.{at_key, HasGathered, HasStood, IsGathered}

module _ (k : ℕ) (f : Waiting → Waiting) where
  pub at_other : (j : ℕ) (entry : Option Waiting) → j ≢ k → at_key k f j entry ≡ entry
  at_other j entry apart =
      elim (eqb_tells j k) [
        | inl same ↦ absurd (apart same.1)
        | inr other ↦ ap (λ b. cond b (option_map f entry) entry) other.0
      ]

  pub at_that : (entry : Option Waiting) → at_key k f k entry ≡ option_map f entry
  at_that entry = ap (λ b. cond b (option_map f entry) entry) (eq-eqb k k refl)

  pub at_none : (j : ℕ) → at_key k f j None ≡ None
  at_none j = elim (nat_eq j k) as (λ b. cond b (option_map f None) None ≡ None) [ true ↦ refl | false ↦ refl ]

  pub last_stays : (V W : WaitMap) → HasEach (at_key k f) V W → HasNoLast V → HasNoLast W
  last_stays V W each none = each (2 ^ 64 - 1) ∙ ap (at_key k f (2 ^ 64 - 1)) none ∙ at_none (2 ^ 64 - 1)

  pub put_at : (V W : WaitMap) (w : Waiting) → get V k ≡ Some w → W ≡ insert V k (f w) → HasEach (at_key k f) V W
  put_at V W w there is j =
      ap (λ (m : WaitMap). get m j) is
      ∙ elim (eqb_tells j k) [
        | inl same ↦
            ap (get (insert V k (f w))) same.1 ∙ get-insert-same V k (f w) ∙ ap (option_map f) (sym there) ∙ sym (at_that (get V k))
            ∙ ap (λ i. at_key k f i (get V i)) (sym same.1)
        | inr other ↦ get-insert-other V k (f w) j other.1 ∙ sym (at_other j (get V j) other.1)
      ]

pub there_is : (o : Option Waiting) → IsSome o → (w : Waiting) × (o ≡ Some w)
there_is None there = absurd (not_true there)
there_is (Some w) there = (w, refl)

pub flagged : (p : Waiting → Bool) (o : Option Waiting) → flag p o ≡ true → IsSome o
flagged p None is = absurd (not_true is)
flagged p (Some w) is = refl

-- ---- those that note anew where they stand

again_stood : (spots : List Spot) (v u : Waiting) → IsStood spots v u → stood spots u ≡ stood spots v
again_stood spots v u (inl is) = ap (stood spots) is
again_stood spots v u (inr spread) = ap (stood spots) spread.1

again_spread : (spots some : List Spot) (v u : Waiting) → IsStood spots v u → spread_at some u ≡ spread_at some v
again_spread spots some v u (inl is) = ap (spread_at some) is
again_spread spots some v u (inr spread) = ap (spread_at some) spread.1

stood_twice : (spots : List Spot) (v u w : Waiting) → IsStood spots v u → IsStood spots u w → IsStood spots v w
stood_twice spots v u w one (inl is) = inl (is ∙ again_stood spots v u one)
stood_twice spots v u w one (inr spread) = inr (spread.0, spread.1 ∙ again_spread spots spread.0 v u one)

-- something was done to the entry before
pub stood_after : (k : ℕ) (f : Waiting → Waiting) (spots : List Spot) (V U W : WaitMap) → ((v : Waiting) → get V k ≡ Some v → U ≡ insert V k (f v))
    → HasStood k (λ v. v) spots U W → HasStood k f spots V W
stood_after k f spots V U W put stands v there =
    let is = put v there in
    let after = stands (f v) (ap (λ (m : WaitMap). get m k) is ∙ get-insert-same V k (f v)) in
    (after.0, after.1 ∙ ap (λ (m : WaitMap). insert m k after.0) is ∙ insert-again V k (f v) after.0, after.2)

pub last_stood : (k : ℕ) (f : Waiting → Waiting) (spots : List Spot) (V W : WaitMap) → HasStood k f spots V W → IsSome (get V k) → HasNoLast V → HasNoLast W
last_stood k f spots V W stands some last =
    let there = there_is (get V k) some in
    let after = stands there.0 there.1 in
    ap (λ (m : WaitMap). get m (2 ^ 64 - 1)) after.1
    ∙ get-insert-other V k after.0 (2 ^ 64 - 1) (λ same. none_is_no there.0 (sym last ∙ ap (get V) same ∙ there.1)) ∙ last

once_more : (spots : List Spot) (o u : Option Waiting) (x w : Waiting) → HasGathered spots o u → u ≡ Some x → IsStood spots x w → HasGathered spots o (Some w)
once_more spots None u x w none is stands = absurd (none_is_no x (sym none ∙ is))
once_more spots (Some v) u x w had is stands =
    let same : x ≡ had.0 = same_some x had.0 (sym is ∙ had.1) in (
      w,
      refl,
      inr (elim had.2 [
        | inl was ↦ subst (λ y. IsStood spots y w) (same ∙ was) stands
        | inr anew ↦ stood_twice spots v x w (subst (IsStood spots v) (sym same) anew) stands
      ]),
    )

gathered_self : (spots : List Spot) (o : Option Waiting) → HasGathered spots o o
gathered_self spots None = refl
gathered_self spots (Some v) = (v, refl, inl refl)

module _ (places : ℕ → List Spot) where
  pub gathered_none : (V : WaitMap) → IsGathered places V V
  gathered_none V k = gathered_self (places k) (get V k)

  pub gathered_more : (key : ℕ) (V U W : WaitMap) → IsGathered places V U → IsSome (get U key) → HasStood key (λ v. v) (places key) U W → IsGathered places V W
  gathered_more key V U W gathered some stands k =
      let there = there_is (get U key) some in
      let after = stands there.0 there.1 in
      elim (eqb_tells k key) [
        | inl same ↦ subst (λ j. HasGathered (places j) (get V j) (get W j)) (sym same.1)
            (subst (HasGathered (places key) (get V key)) (sym (ap (λ (m : WaitMap). get m key) after.1 ∙ get-insert-same U key after.0))
            (once_more (places key) (get V key) (get U key) there.0 after.0 (gathered key) there.1 after.2))
        | inr other ↦ subst (HasGathered (places k) (get V k))
            (sym (ap (λ (m : WaitMap). get m k) after.1 ∙ get-insert-other U key after.0 k other.1)) (gathered k)
      ]

  none_gathered : (spots : List Spot) (o entry : Option Waiting) → o ≡ None → HasGathered spots o entry → entry ≡ None
  none_gathered spots None entry none is = is
  none_gathered spots (Some v) entry none is = absurd (none_is_no v (sym none))

  pub last_gathered : (U W : WaitMap) → IsGathered places U W → HasNoLast U → HasNoLast W
  last_gathered U W gathered last = none_gathered (places (2 ^ 64 - 1)) (get U (2 ^ 64 - 1)) (get W (2 ^ 64 - 1)) last (gathered (2 ^ 64 - 1))
