-- Whether some thread runs, by the entries.
--     thread_lives      a thread's process is live
--     all_wait, none_runs      no entry runs exactly where each thread waits
--     nobody, somebody      there is an entry exactly where there is a thread
--     all_parked, parked_exactly      some thread is there, and each waits
--     jump_exactly, stall_exactly      where time may jump, and where nothing happens any more
--     runners_are_told
use Rattle.std.proofs.Common.{◌≡◌, ◌↔◌, ℕ, ◌/◌, ◌%◌, ◌^◌, true, false, Option, None, Some, IsSome, refl, sym, ap, subst, ◌∙◌, arith}
use Rattle.std.specs.Option.{option_map}
use Rattle.std.specs.FinMap.{get}
use Rattle.abi_types.specs.declared.constants.Constants.{Constants}
use Rattle.abi_types.specs.declared.status.Status.TheVariants.{Live}
use Rattle.abi_types.specs.declared.thread.Thread.{Thread}
use Rattle.abi_types.specs.declared.thread.Thread.TheVariants.{Runnable, Waits}
use Rattle.kernel_model.specs.Deadlines.{least_deadline}
use Rattle.maps.specs.Closure.{total_ones}
use Rattle.maps.specs.Maps.{least_key, least_key-entry, least_key-none, passes, total_none, total-zero, weight}
use Rattle.kernel_model.specs.State.{ProcessState, State, thread_in, thread_of}
use Rattle.kernel_model.specs.Valid.{IsValid}
use Rattle.kernel_model.specs.WaitLaws.{IsLeastDeadline}
use Rattle.kernel_model.specs.Waits.{IsParked}
use Rattle.kernel_model.specs.Wakes.{AllParked, HasThread, IsStalled, MayJump, NoneReady}
use Rattle.kernel_model.proofs.Readiness.{least_is_least}
use Rattle.kernel_model.proofs.Tests.{none_is_no, not_true}
use Rattle.kernel_model.proofs.Valids.{lives_by}
use Rattle.kernel_parts.specs.Keys.{key}
use Rattle.wait_set.specs.declared.waiting.Waiting.{Waiting}
use Rattle.wait_set.specs.Waits as waits
use Rattle.wait_set.specs.Waits.{WaitMap, flag}
use Rattle.readiness_laws.specs.WatchLaws.{IsNobody, NoneRuns, RunnersAreTold}
use Rattle.readiness_laws.specs.Watched.{HasEntry, IsEntry, IsWatched, is_running, looked_at}
use Rattle.readiness_laws.proofs.Keys.{key_of, key_small}
use Rattle.readiness_laws.proofs.WatchedThreads.{entry_there}

-- ---- entries that are there

none_held : (W : WaitMap) → IsNobody W → (k : ℕ) → get W k ≡ None
none_held W none k =
    elim (get W k) as (λ o. get W k ≡ o → o ≡ None) [
      | None ↦ λ _. refl
      | Some w ↦ λ is. let one = total-zero (λ (x : Waiting). 1) W k w (total_ones W ∙ none) is in absurd (omega (arith, one))
    ] refl

some_held : (W : WaitMap) → (IsNobody W → ⊥) → (k : ℕ) × (w : Waiting) × (get W k ≡ Some w)
some_held W some =
    elim (least_key (λ (k : ℕ) (w : Waiting). true) W) as (λ o. least_key (λ (k : ℕ) (w : Waiting). true) W ≡ o → (k : ℕ) × (w : Waiting) × (get W k ≡ Some w)) [
      | None ↦ λ is. absurd (some (sym (total_ones W) ∙ total_none (λ (x : Waiting). 1) W (λ k. no_weight k (get W k) (least_key-none (λ (k : ℕ) (w : Waiting). true) W is k))))
      | Some k ↦ λ is. let entry = least_key-entry (λ (k : ℕ) (w : Waiting). true) W k is in (k, entry.0, entry.1)
    ] refl where
      no_weight : (k : ℕ) (o : Option Waiting) → passes (λ (j : ℕ) (w : Waiting). true) k o ≡ false → weight (λ (x : Waiting). 1) o ≡ 0
      no_weight k None fails = refl
      no_weight k (Some w) fails = absurd (not_true (sym fails))

-- ---- a thread is of a live process

made_by : (o : Option ProcessState) (t : ℕ) → IsSome (thread_in (option_map (λ (own : ProcessState). own.threads) o) t) → IsSome o
made_by None t there = there
made_by (Some own) t there = refl

pub thread_lives : (S : State) (p t : ℕ) → IsValid S → IsSome (thread_of S p t) → get S.statuses p ≡ Some Live
thread_lives S p t valid there =
    lives_by (get S.statuses p) (sym (valid.nearly.owns p) ∙ made_by (get S.processes p) t there)

-- ---- threads that run, and those that wait

parked_by : (thread : Thread) → is_running (Some thread) ≡ false → IsParked thread
parked_by Runnable rests = absurd (not_true (sym rests))
parked_by (Waits call since until stage) rests = tt

rests_by : (thread : Thread) → IsParked thread → is_running (Some thread) ≡ false
rests_by Runnable parked = absurd parked
rests_by (Waits call since until stage) parked = refl

some_thread : (o : Option Thread) → IsSome o → (thread : Thread) × (o ≡ Some thread)
some_thread None some = absurd (not_true some)
some_thread (Some thread) some = (thread, refl)

module _ (S : State) (W : WaitMap) (watched : IsWatched S W) where
  entry_at : (k : ℕ) (w : Waiting) → get W k ≡ Some w → IsEntry (looked_at S) (k / 2 ^ 32) (k % 2 ^ 32) w
  entry_at k w is =
      subst (HasEntry (looked_at S) (k / 2 ^ 32) (k % 2 ^ 32)) (ap (get W) (key_of k) ∙ is) (watched.entries (k / 2 ^ 32) (k % 2 ^ 32) (key_small k))

  entry_of : (p t : ℕ) (w : Waiting) → IsSome (thread_of S p t) → get W (key p t) ≡ Some w → IsEntry (looked_at S) p t w
  entry_of p t w there is = subst (HasEntry (looked_at S) p t) is (watched.entries p t (watched.small p t there))

  -- no entry runs exactly where each thread waits
  pub all_wait : NoneRuns W → (p t : ℕ) (thread : Thread) → HasThread S p t thread → IsParked thread
  all_wait none p t thread is =
      let there = subst IsSome (sym is) refl in
      let found = entry_there S W p t watched there in
      let entry = entry_of p t found.0 there found.1 in
      parked_by thread (ap is_running (sym is) ∙ sym entry.runs ∙ sym (ap (flag waits.is_running) found.1) ∙ none (key p t))

  pub none_runs : ((p t : ℕ) (thread : Thread) → HasThread S p t thread → IsParked thread) → NoneRuns W
  none_runs all k =
      elim (get W k) as (λ o. get W k ≡ o → flag waits.is_running o ≡ false) [
        | None ↦ λ _. refl
        | Some w ↦ λ is.
            let entry = entry_at k w is in
            let found = some_thread (thread_of S (k / 2 ^ 32) (k % 2 ^ 32)) entry.there in
            entry.runs ∙ ap is_running found.1 ∙ rests_by found.0 (all (k / 2 ^ 32) (k % 2 ^ 32) found.0 found.1)
      ] refl

  -- ---- whether there is a thread

  pub nobody : IsNobody W → (p t : ℕ) → thread_of S p t ≡ None
  nobody none p t =
      elim (thread_of S p t) as (λ o. thread_of S p t ≡ o → o ≡ None) [
        | None ↦ λ _. refl
        | Some thread ↦ λ is.
            let found = entry_there S W p t watched (subst IsSome (sym is) refl) in absurd (none_is_no found.0 (sym (none_at (key p t)) ∙ found.1))
      ] refl where
        none_at : (k : ℕ) → get W k ≡ None
        none_at k = none_held W none k

  pub somebody : (IsNobody W → ⊥) → (p : ℕ) × (t : ℕ) × (thread : Thread) × HasThread S p t thread
  somebody some =
      let found = some_held W some in
      let is = some_thread (thread_of S (found.0 / 2 ^ 32) (found.0 % 2 ^ 32)) (entry_at found.0 found.1 found.2).there in
      (found.0 / 2 ^ 32, found.0 % 2 ^ 32, is.0, is.1)

  held_by : (p t : ℕ) (thread : Thread) → HasThread S p t thread → IsNobody W → ⊥
  held_by p t thread is none = none_is_no thread (sym (nobody none p t) ∙ is)

  -- ---- where time may jump, and where nothing happens any more

  module _ (valid : IsValid S) where
    pub all_parked : NoneRuns W → (p t : ℕ) (thread : Thread) → HasThread S p t thread → AllParked S
    all_parked none p t thread is = ((p, t, thread, is, thread_lives S p t valid (subst IsSome (sym is) refl)), all_wait none)

    pub parked_exactly : (NoneRuns W × (IsNobody W → ⊥)) ↔ AllParked S
    parked_exactly = (
      (λ both. let found = somebody both.1 in all_parked both.0 found.0 found.1 found.2 found.3),
      (λ all. (none_runs all.1, held_by all.0.0 all.0.1 all.0.2 all.0.3)),
    )

    -- whoever waits until a moment is there
    pub jump_exactly : (constants : Constants) (until : ℕ) → least_deadline S ≡ Some until → (NoneRuns W × NoneReady constants S) ↔ MayJump constants S
    jump_exactly constants until least =
        let is : IsLeastDeadline S (Some until) = subst (IsLeastDeadline S) least (least_is_least S) in (
          (λ both. record { all = all_parked both.0 is.0.0 is.0.1 (Waits is.0.2.0 is.0.2.1 (Some until) is.0.2.2) is.0.2.3; none = both.1; until = until; least = least }),
          (λ may. (none_runs may.all.1, may.none)),
        )

    pub stall_exactly : (constants : Constants) → least_deadline S ≡ None → (NoneRuns W × (IsNobody W → ⊥) × NoneReady constants S) ↔ IsStalled constants S
    stall_exactly constants least = (
      (λ both. record { all = parked_exactly.0 (both.0, both.1); none = both.2; least = least }),
      (λ stalled. let back = parked_exactly.1 stalled.all in (back.0, back.1, stalled.none)),
    )

pub runners_are_told : RunnersAreTold
runners_are_told = record {
  waits = λ S W watched. (all_wait S W watched, none_runs S W watched);
  parked = λ S W watched valid. parked_exactly S W watched valid;
  jumps = λ S W watched valid. jump_exactly S W watched valid;
  stalls = λ S W watched valid. stall_exactly S W watched valid;
}
