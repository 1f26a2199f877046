-- Whether some thread runs, by how many entries are of one that does.
--     all_wait_where, none_counted      none of the entries runs exactly where each thread waits
--     ready_told      none is ready exactly where there is no next ready thread
--     jumps_to, stall_told, not_stalled      where time may jump, and where nothing happens any more
use Rattle.std.proofs.Common.{◌≡◌, ℕ, Bool, true, false, cond, not, Option, None, Some, is_some, refl, sym, ap, ◌∙◌, arith}
use Rattle.std.proofs.lemmas.Bool.{eqb-true, ltb-false}
use Rattle.std.specs.Prelude.{nat_eq, nat_lt}
use Rattle.std.specs.FinMap.{get, len}
use Rattle.maps.specs.Maps.{total_none, total-zero, weight}
use Rattle.abi_types.specs.declared.constants.Constants.{Constants}
use Rattle.kernel_model.specs.Deadlines.{least_deadline}
use Rattle.kernel_model.specs.State.{State}
use Rattle.kernel_model.specs.Valid.{IsValid}
use Rattle.kernel_model.specs.Wakes.{IsStalled, MayJump, NoneReady}
use Rattle.kernel_model.proofs.Tests.{none_is_no, not_true}
use Rattle.wait_set.specs.declared.waiting.Waiting.{Waiting}
use Rattle.wait_set.specs.Waits.{WaitMap, counted, flag, is_running}
use Rattle.readiness_laws.specs.NextReady.{ThreadName, IsNextReady}
use Rattle.readiness_laws.specs.Watched.{IsWatched}
use Rattle.readiness_laws.proofs.Running.{all_wait, jump_exactly, nobody, none_runs, stall_exactly}
use Rattle.kernel_invariant.specs.Waiting.{NoneRuns}

weighs_none : (b : Bool) (n : ℕ) → n ≡ cond b 1 0 → n ≡ 0 → b ≡ false
weighs_none true n is none = absurd (omega (arith, is, none))
weighs_none false n is none = refl

none_flagged : (p : Waiting → Bool) (W : WaitMap) → counted p W ≡ 0 → (k : ℕ) → flag p (get W k) ≡ false
none_flagged p W none k =
    elim (get W k) as (λ o. get W k ≡ o → flag p o ≡ false) [
      | None ↦ λ _. refl
      | Some w ↦ λ is. weighs_none (p w) (cond (p w) 1 0) refl (total-zero (λ s. cond (p s) 1 0) W k w none is)
    ] refl

no_weight : (p : Waiting → Bool) (o : Option Waiting) → flag p o ≡ false → weight (λ s. cond (p s) 1 0) o ≡ 0
no_weight p None fails = refl
no_weight p (Some w) fails = ap (λ b. cond b 1 0) fails

module _ (S : State) (W : WaitMap) (watched : IsWatched S W) where
  pub all_wait_where : nat_lt 0 (counted is_running W) ≡ false → NoneRuns S
  all_wait_where none =
      let few = ltb-false 0 (counted is_running W) none in
      all_wait S W watched (none_flagged is_running W (omega (arith, few)))

  pub none_counted : NoneRuns S → nat_lt 0 (counted is_running W) ≡ false
  none_counted all = ap (nat_lt 0) (total_none (λ s. cond (is_running s) 1 0) W (λ k. no_weight is_running (get W k) (none_runs S W watched all k)))

pub ready_told : (constants : Constants) (S : State) (next : Option ThreadName) (b : Bool) → IsNextReady constants S None next → is_some next ≡ not b
    → (b ≡ true → NoneReady constants S) × (NoneReady constants S → b ≡ true)
ready_told constants S None true is told = ((λ _ p t. is p t tt), (λ _. refl))
ready_told constants S None false is told = absurd (not_true told)
ready_told constants S (Some thread) true is told = absurd (not_true (sym told))
ready_told constants S (Some thread) false is told = ((λ no. absurd (not_true no)), (λ none. absurd (not_true (sym (none thread.0 thread.1) ∙ is.1))))

-- ---- where time may jump, and where nothing happens any more

module _ (constants : Constants) (S : State) (W : WaitMap) (watched : IsWatched S W) where
  pub jumps_to : IsValid S → NoneRuns S → NoneReady constants S → (until : ℕ) → least_deadline S ≡ Some until → MayJump constants S
  jumps_to valid all none until least = (jump_exactly S W watched valid constants until least).0 (none_runs S W watched all, none)

  pub stall_told : IsValid S → NoneRuns S → NoneReady constants S → nat_eq (len W) 0 ≡ false → (least : Option ℕ) (b : Bool) → least ≡ least_deadline S
      → is_some least ≡ not b → (b ≡ true → IsStalled constants S) × (IsStalled constants S → b ≡ true)
  stall_told valid all none some None true is told = (
    (λ _. (stall_exactly S W watched valid constants (sym is)).0 (none_runs S W watched all, (λ nobody. not_true (sym some ∙ ap (λ n. nat_eq n 0) nobody)), none)),
    (λ _. refl),
  )
  stall_told valid all none some None false is told = absurd (not_true told)
  stall_told valid all none some (Some m) true is told = absurd (not_true (sym told))
  stall_told valid all none some (Some m) false is told = ((λ no. absurd (not_true no)), (λ stalled. absurd (none_is_no m (sym stalled.least ∙ sym is))))

  pub not_stalled : nat_eq (len W) 0 ≡ true → IsStalled constants S → ⊥
  not_stalled empty stalled =
      let found = stalled.all.0 in none_is_no found.2 (sym (nobody S W watched (eqb-true (len W) 0 empty) found.0 found.1) ∙ found.3)
