-- A walk over the threads between two bounds, each of which is changed, or taken out.
--     Between f first end from old new      the entries from `first` on and before `from` are changed by f, and each other is as it was
--     between_first, between_step, between_last      a walk's beginning, step and end
--     first_some, first_late, first_none      the first key from a number on
use Rattle.std.proofs.Common.{◌≡◌, ℕ, ◌+◌, ◌<◌, ◌≤◌, Bool, true, false, cond, ◌&&◌, nat_lt, nat_le, inl, inr, Option, Some, None, is_some, refl, sym, ap, ◌∙◌, arith}
use Rattle.std.specs.Bool.{nat_eq}
use Rattle.std.specs.Ordering.{nat_cmp}
use Rattle.std.specs.FinMap.{FinMap, get, remove, contains_key}
use Rattle.std.proofs.lemmas.Bool.{lt-ltb, ltb-true, leb-true, le-leb, cases_lt}
use Rattle.std.proofs.lemmas.Bool.Decides.{eqb_tells}
use Rattle.maps.specs.Halves.{not_true}
use Rattle.maps.specs.Maps.{get-remove-same, get-remove-other, passes, least_key, least_key-entry, least_key-least, least_key-none}
use Rattle.wait_set.specs.declared.waiting.Waiting.{Waiting}
use Rattle.wait_set.specs.Next.{IsFirst, is_between}
use Rattle.wait_set.specs.Waits.{WaitMap}

pub record Between (f : Option Waiting → Option Waiting) (first end from : ℕ) (old new : WaitMap) : Type 0 where
  pub at : (k : ℕ) → get new k ≡ cond (is_between first from k) (f (get old k)) (get old k)
  pub inside : (k : ℕ) → is_between first from k ≡ true → is_between first end k ≡ true

two : (a b : Bool) → (a && b) ≡ true → (a ≡ true) × (b ≡ true)
two true b h = (refl, h)
two false b h = absurd (not_true h)

bounds : (first end k : ℕ) → is_between first end k ≡ true → (first ≤ k) × (k < end)
bounds first end k at = let both = two (nat_le first k) (nat_lt k end) at in (leb-true first k both.0, ltb-true k end both.1)

within : (first end k : ℕ) → first ≤ k → k < end → is_between first end k ≡ true
within first end k low high = ap (λ b. b && nat_lt k end) (le-leb first k low) ∙ lt-ltb k end high

outside : (first end k : ℕ) → ((first ≤ k) → (k < end) → ⊥) → is_between first end k ≡ false
outside first end k out =
    elim (is_between first end k) as (λ b. is_between first end k ≡ b → b ≡ false) [
      | true ↦ λ at. let both = bounds first end k at in absurd (out both.0 both.1)
      | false ↦ λ _. refl
    ] refl

pub between_first : (f : Option Waiting → Option Waiting) (first end : ℕ) (w : WaitMap) → Between f first end first w w
between_first f first end w =
    record {
      at = λ k. sym (ap (λ b. cond b (f (get w k)) (get w k)) (outside first first k (λ low high. omega arith)));
      inside = λ k at. let both = bounds first first k at in absurd (omega arith);
    }

-- a number that wasn't reached is as it was
behind : (f : Option Waiting → Option Waiting) (first end from : ℕ) (old new : WaitMap) (k : ℕ) → Between f first end from old new → from ≤ k → get new k ≡ get old k
behind f first end from old new k done high =
    done.at k ∙ ap (λ b. cond b (f (get old k)) (get old k)) (outside first from k (λ low less. omega arith))

-- where there is no entry
absent : (w : WaitMap) (k : ℕ) → contains_key w k ≡ false → get w k ≡ None
absent w k none = elim (get w k) as (λ o. is_some o ≡ false → o ≡ None) [ None ↦ λ _. refl | Some s ↦ λ h. absurd (not_true (sym h)) ] none

pub between_step : (f : Option Waiting → Option Waiting) (first end from t : ℕ) (old new next : WaitMap) → first ≤ from → f None ≡ None → Between f first end from old new
    → IsFirst (λ k. contains_key new k) from end (Some t) → ((k : ℕ) → get next k ≡ cond (nat_eq k t) (f (get new k)) (get new k))
    → Between f first end (t + 1) old next
between_step f first end from t old new next start none done is_first is =
    record {
      at = λ k. is k ∙ elim (eqb_tells k t) [
        | inl same ↦
            let high : from ≤ k = let a = same.1 in let b = is_first.0 in omega arith in
            ap (λ b. cond b (f (get new k)) (get new k)) same.0
            ∙ ap f (behind f first end from old new k done high)
            ∙ sym (ap (λ b. cond b (f (get old k)) (get old k))
            (within first (t + 1) k (let a = same.1 in let b = is_first.0 in omega arith) (let a = same.1 in omega arith)))
        | inr other ↦
            ap (λ b. cond b (f (get new k)) (get new k)) other.0
            ∙ elim (cases_lt k from) [
              | inl low ↦ done.at k ∙ ap (λ b. cond b (f (get old k)) (get old k)) (same_below k low)
              | inr high ↦
                  behind f first end from old new k done high
                  ∙ elim (cases_lt k t) [
                    | inl between ↦
                        let no_entry : get old k ≡ None = sym (behind f first end from old new k done high) ∙ absent new k (is_first.3 k high between) in
                        no_entry ∙ sym none ∙ ap f (sym no_entry)
                        ∙ sym (ap (λ b. cond b (f (get old k)) (get old k)) (within first (t + 1) k (omega arith) (omega arith)))
                    | inr above ↦
                        let differs = other.1 in
                        sym (ap (λ b. cond b (f (get old k)) (get old k)) (outside first (t + 1) k (λ a b. differs (omega arith))))
                  ]
            ]
      ];
      inside = λ k at.
          let both = bounds first (t + 1) k at in
          let most = is_first.1 in
          within first end k both.0 (omega arith);
    }
  where
    same_below : (k : ℕ) → k < from → is_between first from k ≡ is_between first (t + 1) k
    same_below k low =
        elim (cases_lt k first) [
          | inl under ↦ outside first from k (λ a b. omega arith) ∙ sym (outside first (t + 1) k (λ a b. omega arith))
          | inr over ↦ let up = is_first.0 in within first from k over low ∙ sym (within first (t + 1) k over (omega arith))
        ]

pub between_last : (f : Option Waiting → Option Waiting) (first end from : ℕ) (old new : WaitMap) → first ≤ from → f None ≡ None → Between f first end from old new
    → IsFirst (λ k. contains_key new k) from end None → (k : ℕ) → get new k ≡ cond (is_between first end k) (f (get old k)) (get old k)
between_last f first end from old new start none done is_last k =
    elim (cases_lt k from) [
      | inl low ↦
          done.at k ∙ elim (cases_lt k first) [
            | inl under ↦ ap (λ b. cond b (f (get old k)) (get old k)) (outside first from k (λ a b. omega arith) ∙ sym (outside first end k (λ a b. omega arith)))
            | inr over ↦
                let at = within first from k over low in
                ap (λ b. cond b (f (get old k)) (get old k)) (at ∙ sym (done.inside k at))
          ]
      | inr high ↦
          behind f first end from old new k done high
          ∙ elim (cases_lt k end) [
            | inl less ↦
                let no_entry : get old k ≡ None = sym (behind f first end from old new k done high) ∙ absent new k (is_last k high less) in
                no_entry ∙ sym none ∙ ap f (sym no_entry)
                ∙ sym (ap (λ b. cond b (f (get old k)) (get old k)) (within first end k (omega arith) less))
            | inr above ↦ sym (ap (λ b. cond b (f (get old k)) (get old k)) (outside first end k (λ a b. omega arith)))
          ]
    ]

-- one entry is taken out
pub removed_at : (w : WaitMap) (t k : ℕ) → get (remove w t) k ≡ cond (nat_eq k t) None (get w k)
removed_at w t k =
    elim (eqb_tells k t) [
      | inl same ↦ ap (get (remove w t)) same.1 ∙ get-remove-same w t ∙ sym (ap (λ b. cond b None (get w k)) same.0)
      | inr other ↦ get-remove-other w t k other.1 ∙ sym (ap (λ b. cond b None (get w k)) other.0)
    ]

-- ---- the first key

module _ {X : Type 0} where
  none_from : (from t : ℕ) (o : Option X) → from ≤ t → passes (λ q _. nat_le from q) t o ≡ false → is_some o ≡ false
  none_from from t None low none = refl
  none_from from t (Some x) low none = absurd (not_true (sym none ∙ le-leb from t low))

  some_from : (from t : ℕ) (o : Option X) → from ≤ t → is_some o ≡ true → passes (λ q _. nat_le from q) t o ≡ true
  some_from from t None low some = some
  some_from from t (Some x) low some = le-leb from t low

  pub first_none : (from end : ℕ) (m : FinMap nat_cmp X) → least_key (λ q _. nat_le from q) m ≡ None → IsFirst (λ k. contains_key m k) from end None
  first_none from end m e = λ t low less. none_from from t (get m t) low (least_key-none (λ q _. nat_le from q) m e t)

  below_first : (from k : ℕ) (m : FinMap nat_cmp X) → least_key (λ q _. nat_le from q) m ≡ Some k → (t : ℕ) → from ≤ t → t < k → contains_key m t ≡ false
  below_first from k m e t low less =
      elim (contains_key m t) as (λ b. contains_key m t ≡ b → b ≡ false) [
        | true ↦ λ some. let most = least_key-least (λ q _. nat_le from q) m k e t (some_from from t (get m t) low some) in absurd (omega arith)
        | false ↦ λ _. refl
      ] refl

  pub first_some : (from end k : ℕ) (m : FinMap nat_cmp X) → least_key (λ q _. nat_le from q) m ≡ Some k → k < end → IsFirst (λ q. contains_key m q) from end (Some k)
  first_some from end k m e less =
      let there = least_key-entry (λ q _. nat_le from q) m k e in
      (leb-true from k there.2, less, ap is_some there.1, below_first from k m e)

  pub first_late : (from end k : ℕ) (m : FinMap nat_cmp X) → least_key (λ q _. nat_le from q) m ≡ Some k → end ≤ k → IsFirst (λ q. contains_key m q) from end None
  first_late from end k m e late = λ t low less. below_first from k m e t low (omega arith)
