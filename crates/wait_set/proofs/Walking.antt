-- A walk over the threads that pass a test, the least first, in which each that is met is changed.
--     Walked f after old new      the threads up to `after` are changed by f, and those after it are as they were
--     walk_first, walk_step, walk_end      a walk's beginning, step and end
--     remaining p after w      how many threads after `after` pass
--     remaining_first, remaining_step, remaining_last      it falls by one at each step
--     next_before      the next thread was the next one before the walk
use Rattle.std.proofs.Common.{◌≡◌, ◌≢◌, ℕ, ◌+◌, Bool, true, false, cond, nat_lt, inl, inr, Option, Some, None, refl, sym, ap, subst, ◌∙◌, arith}
use Rattle.std.specs.Option.{option_map}
use Rattle.std.specs.FinMap.{get, insert, remove, retain_keys}
use Rattle.std.proofs.lemmas.Bool.{lt-ltb, le-ltb, ltb-true, ltb-false}
use Rattle.std.proofs.lemmas.Bool.Decides.{eqb_tells}
use Rattle.maps.specs.Halves.{not_true}
use Rattle.maps.specs.Maps.{weight, get-insert-same, get-insert-other, get-remove-same, get-remove-other, get-retain, same_numbers, total-remove, total_same}
use Rattle.maps.specs.Closure.{get-changed}
use Rattle.wait_set.specs.declared.waiting.Waiting.{Waiting}
use Rattle.wait_set.specs.Next.{is_after, IsNext}
use Rattle.wait_set.specs.Waits.{WaitMap, flag, counted, so_changed, where_so}
use Rattle.wait_set.proofs.Tying.{one_flag, counted_none}

pub record Walked (f : ℕ → Waiting → Waiting) (after : Option ℕ) (old new : WaitMap) : Type 0 where
  pub at : (t : ℕ) → get new t ≡ option_map (λ s. cond (is_after after t) s (f t s)) (get old t)

mapped_self : (o : Option Waiting) → option_map (λ s. s) o ≡ o
mapped_self None = refl
mapped_self (Some s) = refl

pub walk_first : (f : ℕ → Waiting → Waiting) (w : WaitMap) → Walked f None w w
walk_first f w = record { at = λ t. sym (mapped_self (get w t)) }

-- a thread after those that were met is as it was
pub walk_same : (f : ℕ → Waiting → Waiting) (after : Option ℕ) (old new : WaitMap) → Walked f after old new → (t : ℕ) → is_after after t ≡ true → get new t ≡ get old t
walk_same f after old new done t later =
    done.at t ∙ ap (λ b. option_map (λ s. cond b s (f t s)) (get old t)) later ∙ mapped_self (get old t)

-- what is after a later one is after an earlier one
after_more : (after : Option ℕ) (k t : ℕ) → is_after after k ≡ true → nat_lt k t ≡ true → is_after after t ≡ true
after_more None k t first second = refl
after_more (Some a) k t first second =
    let one = ltb-true a k first in
    let two = ltb-true k t second in
    lt-ltb a t (omega arith)

itself : (k : ℕ) → nat_lt k k ≡ false
itself k = le-ltb k k (omega arith)

-- those between aren't next
between_fails : (p : ℕ → Bool) (after : Option ℕ) (k t : ℕ) → IsNext p after (Some k) → is_after after t ≡ true → nat_lt k t ≡ false → t ≢ k → p t ≡ false
between_fails p after k t next later low other =
    elim (p t) as (λ b. p t ≡ b → b ≡ false) [
      | true ↦ λ at.
          let most = next.2 t later at in
          let less = ltb-false k t low in
          absurd (other (omega arith))
      | false ↦ λ _. refl
    ] refl

-- an entry that fails is changed to itself
pub fails_same : (p : Waiting → Bool) (g : ℕ → Waiting → Waiting) (t : ℕ) (o : Option Waiting) → flag p o ≡ false → o ≡ option_map (so_changed p g t) o
fails_same p g t None fails = refl
fails_same p g t (Some s) fails = ap (λ b. Some (cond b (g t s) s)) (sym fails)

-- where f is g at those that pass
module _ (p : Waiting → Bool) (g : ℕ → Waiting → Waiting) where
  step_other : (after : Option ℕ) (old new : WaitMap) (k t : ℕ) → Walked (so_changed p g) after old new → IsNext (λ u. flag p (get new u)) after (Some k) → t ≢ k
      → get new t ≡ option_map (λ s. cond (nat_lt k t) s (so_changed p g t s)) (get old t)
  step_other after old new k t done next other =
      elim (nat_lt k t) as (λ b. nat_lt k t ≡ b → get new t ≡ option_map (λ s. cond b s (so_changed p g t s)) (get old t)) [
        | true ↦ λ high. walk_same (so_changed p g) after old new done t (after_more after k t next.0 high) ∙ sym (mapped_self (get old t))
        | false ↦ λ low. elim (is_after after t) as (λ b. is_after after t ≡ b → get new t ≡ option_map (so_changed p g t) (get old t)) [
          | true ↦ λ later.
              let same = walk_same (so_changed p g) after old new done t later in
              let fails = between_fails (λ u. flag p (get new u)) after k t next later low other in
              same ∙ fails_same p g t (get old t) (sym (ap (flag p) same) ∙ fails)
          | false ↦ λ met. done.at t ∙ ap (λ b. option_map (λ s. cond b s (so_changed p g t s)) (get old t)) met
        ] refl
      ] refl

  pub walk_step : (after : Option ℕ) (old new next : WaitMap) (k : ℕ) (s : Waiting) → Walked (so_changed p g) after old new → IsNext (λ u. flag p (get new u)) after (Some k)
      → get new k ≡ Some s → next ≡ insert new k (g k s) → Walked (so_changed p g) (Some k) old next
  walk_step after old new next k s done is_next at is =
      record {
        at = λ t.
            ap (λ (w : WaitMap). get w t) is
            ∙ elim (eqb_tells t k) [
              | inl same ↦
                  let passes : p s ≡ true = sym (ap (flag p) at) ∙ is_next.1 in
                  let was : get old k ≡ Some s = sym (walk_same (so_changed p g) after old new done k is_next.0) ∙ at in
                  subst (λ q. get (insert new k (g k s)) q ≡ option_map (λ x. cond (nat_lt k q) x (so_changed p g q x)) (get old q)) (sym same.1)
                  (get-insert-same new k (g k s)
                  ∙ ap (λ b. Some (cond b (g k s) s)) (sym passes)
                  ∙ ap (λ b. Some (cond b s (so_changed p g k s))) (sym (itself k))
                  ∙ ap (option_map (λ x. cond (nat_lt k k) x (so_changed p g k x))) (sym was))
              | inr other ↦ get-insert-other new k (g k s) t other.1 ∙ step_other after old new k t done is_next other.1
            ];
      }

  pub walk_end : (after : Option ℕ) (old new : WaitMap) → Walked (so_changed p g) after old new → IsNext (λ u. flag p (get new u)) after None → new ≡ where_so p g old
  walk_end after old new done none =
      same_numbers new (where_so p g old) (λ t.
      elim (is_after after t) as (λ b. is_after after t ≡ b → get new t ≡ option_map (so_changed p g t) (get old t)) [
        | true ↦ λ later.
            let same = walk_same (so_changed p g) after old new done t later in
            same ∙ fails_same p g t (get old t) (sym (ap (flag p) same) ∙ none t later)
        | false ↦ λ met. done.at t ∙ ap (λ b. option_map (λ s. cond b s (so_changed p g t s)) (get old t)) met
      ] refl
      ∙ sym (get-changed (so_changed p g) old t))

-- a thread that passes has an entry
pub entry_at : (p : Waiting → Bool) (w : WaitMap) (k : ℕ) → flag p (get w k) ≡ true → (s : Waiting) × (get w k ≡ Some s)
entry_at p w k passes =
    elim (get w k) as (λ o. flag p o ≡ true → (s : Waiting) × (o ≡ Some s)) [ None ↦ λ h. absurd (not_true h) | Some s ↦ λ _. (s, refl) ] passes

-- the next thread was the next one before the walk
pub next_on : (p q : ℕ → Bool) (after r : Option ℕ) → ((t : ℕ) → is_after after t ≡ true → p t ≡ q t) → IsNext p after r → IsNext q after r
next_on p q after None same next = λ t later. sym (same t later) ∙ next t later
next_on p q after (Some k) same next = (next.0, sym (same k next.0) ∙ next.1, λ t later at. next.2 t later (same t later ∙ at))

pub next_before : (p : Waiting → Bool) (f : ℕ → Waiting → Waiting) (after r : Option ℕ) (old new : WaitMap) → Walked f after old new
    → IsNext (λ u. flag p (get new u)) after r → IsNext (λ u. flag p (get old u)) after r
next_before p f after r old new done = next_on _ _ after r (λ t later. ap (flag p) (walk_same f after old new done t later))

-- ---- how many are left

abbrev pub remaining : (Waiting → Bool) → Option ℕ → WaitMap → ℕ
remaining p after w = counted p (retain_keys w (is_after after))

pub remaining_first : (p : Waiting → Bool) (w : WaitMap) → remaining p None w ≡ counted p w
remaining_first p w =
    total_same (λ s. cond (p s) 1 0) (λ s. cond (p s) 1 0) (retain_keys w (is_after None)) w
    (λ t. ap (weight (λ s. cond (p s) 1 0)) (get-retain w (is_after None) t))

none_kept : (p : Waiting → Bool) (b : Bool) (o : Option Waiting) → (b ≡ true → flag p o ≡ false) → flag p (cond b o None) ≡ false
none_kept p true o h = h refl
none_kept p false o h = refl

pub remaining_last : (p : Waiting → Bool) (after : Option ℕ) (w : WaitMap) → IsNext (λ t. flag p (get w t)) after None → remaining p after w ≡ 0
remaining_last p after w none =
    counted_none p (retain_keys w (is_after after)) (λ t. ap (flag p) (get-retain w (is_after after) t) ∙ none_kept p (is_after after t) (get w t) (none t))

kept_alike : (p : Waiting → Bool) (w : WaitMap) (after : Option ℕ) (k t : ℕ) → IsNext (λ u. flag p (get w u)) after (Some k) → t ≢ k
    → flag p (cond (is_after after t) (get w t) None) ≡ flag p (cond (nat_lt k t) (get w t) None)
kept_alike p w after k t next other =
    elim (nat_lt k t) as (λ b. nat_lt k t ≡ b → flag p (cond (is_after after t) (get w t) None) ≡ flag p (cond b (get w t) None)) [
      | true ↦ λ high. ap (λ b. flag p (cond b (get w t) None)) (after_more after k t next.0 high)
      | false ↦ λ low. none_kept p (is_after after t) (get w t) (λ later. between_fails (λ u. flag p (get w u)) after k t next later low other)
    ] refl

rest_alike : (p : Waiting → Bool) (w : WaitMap) (after : Option ℕ) (k : ℕ) → IsNext (λ u. flag p (get w u)) after (Some k) → (t : ℕ)
    → flag p (get (remove (retain_keys w (is_after after)) k) t) ≡ flag p (get (retain_keys w (is_after (Some k))) t)
rest_alike p w after k next t =
    elim (eqb_tells t k) [
      | inl same ↦
          ap (λ q. flag p (get (remove (retain_keys w (is_after after)) k) q)) same.1
          ∙ ap (flag p) (get-remove-same (retain_keys w (is_after after)) k)
          ∙ sym (ap (λ q. flag p (get (retain_keys w (is_after (Some k))) q)) same.1
          ∙ ap (flag p) (get-retain w (is_after (Some k)) k) ∙ ap (λ b. flag p (cond b (get w k) None)) (itself k))
      | inr other ↦
          ap (flag p) (get-remove-other (retain_keys w (is_after after)) k t other.1 ∙ get-retain w (is_after after) t)
          ∙ kept_alike p w after k t next other.1
          ∙ sym (ap (flag p) (get-retain w (is_after (Some k)) t))
    ]

pub remaining_step : (p : Waiting → Bool) (w : WaitMap) (after : Option ℕ) (k : ℕ) → IsNext (λ u. flag p (get w u)) after (Some k) → remaining p after w ≡ remaining p (Some k) w + 1
remaining_step p w after k next =
    let here : weight (λ s. cond (p s) 1 0) (get (retain_keys w (is_after after)) k) ≡ 1 =
    one_flag p (get (retain_keys w (is_after after)) k)
    ∙ ap (λ o. cond (flag p o) 1 0) (get-retain w (is_after after) k)
    ∙ ap (λ b. cond (flag p (cond b (get w k) None)) 1 0) next.0
    ∙ ap (λ b. cond b 1 0) next.1 in
    let sum = total-remove (λ s. cond (p s) 1 0) (retain_keys w (is_after after)) k in
    let rest : counted p (remove (retain_keys w (is_after after)) k) ≡ remaining p (Some k) w =
    total_same (λ s. cond (p s) 1 0) (λ s. cond (p s) 1 0) (remove (retain_keys w (is_after after)) k) (retain_keys w (is_after (Some k)))
    (λ t. one_flag p (get (remove (retain_keys w (is_after after)) k) t) ∙ ap (λ b. cond b 1 0) (rest_alike p w after k next t)
    ∙ sym (one_flag p (get (retain_keys w (is_after (Some k))) t))) in
    omega arith
