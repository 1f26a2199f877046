-- Entries of threads that begin to wait or run again, and at the start.
--     rested_is_held      a thread begins to wait, and stands where its call looks
--     ran_is_held      a thread runs again
--     started_is_held      at the start
use Rattle.std.proofs.Common.{◌≡◌, ℕ, ◌-◌, ◌^◌, ◌<◌, Bool, true, false, List, Option, None, Some, IsSome, refl, sym, ap, subst, ◌∙◌, arith}
use Rattle.std.specs.Ordering.{nat_cmp}
use Rattle.std.specs.Option.{option_map}
use Rattle.std.specs.FinMap.{get, get-empty, empty}
use Rattle.abi_base.specs.declared.grant.Grant.{Grant}
use Rattle.abi_types.specs.declared.thread.Thread.{Thread}
use Rattle.abi_types.specs.declared.thread.Thread.TheVariants.{Runnable}
use Rattle.maps.specs.Maps.{get-insert-other}
use Rattle.kernel_model.specs.Start.{start_state}
use Rattle.kernel_model.specs.State.{State, Tree, thread_of}
use Rattle.kernel_model.specs.Waits.{MayWait, with_thread}
use Rattle.kernel_model.proofs.Threading.{thread_here}
use Rattle.kernel_parts.specs.Keys.{key}
use Rattle.kernel_parts.specs.Touching.{HasEach}
use Rattle.wait_set.specs.declared.waiting.Waiting.{Waiting}
use Rattle.wait_set.specs.Waits.{WaitMap, fresh, resting, running}
use Rattle.readiness_laws.specs.Watched.{HasEntry, is_waiting, looked_at}
use Rattle.readiness_laws.proofs.WatchedThreads.{apart_with, entry_there, first_entries, here_with, one_entry, rests_with_thread, running_entry, start_is_watched}
use Rattle.kernel_invariant.specs.Held.{AreHeld}
use Rattle.kernel_invariant.specs.Readiness.{at_key, places_by_key, HasStood}
use Rattle.kernel_invariant.specs.Waiting.{IsUnready}
use Rattle.kernel_invariant.proofs.HeldEntries.{at_other, at_that, last_stays, last_stood}
use Rattle.kernel_invariant.proofs.HeldPlaces.{places_cover}

-- ---- a thread begins to wait

pub rested_is_held : (S : State) (V W : WaitMap) (p t : ℕ) (thread : Thread) (b : Bool) → AreHeld (looked_at S) V → IsSome (thread_of S p t)
    → MayWait (Some thread) → is_waiting (Some thread) ≡ true → (b ≡ false → IsUnready (with_thread S p t thread) p t)
    → HasStood (key p t) (resting b) (places_by_key S.opens S.tables (with_thread S p t thread).processes (key p t)) V W
    → AreHeld (looked_at (with_thread S p t thread)) W
rested_is_held S V W p t thread b before there may waits unready stands =
    let T : State = with_thread S p t thread in
    let had = entry_there S V p t before.watched there in
    let now = stands had.0 had.1 in
    record {
      watched = rests_with_thread S V W p t thread (places_by_key T.opens T.tables T.processes (key p t)) b had.0 now.0 before.watched there may waits now.1 now.2
          (places_cover T p t (before.watched.small p t there)) unready;
      last = last_stood (key p t) (resting b) (places_by_key T.opens T.tables T.processes (key p t)) V W stands (subst IsSome (sym had.1) refl) before.last;
    }

-- ---- a thread runs again

module _ (S : State) (V W : WaitMap) (p t : ℕ) (small : t < 2 ^ 32) (before : AreHeld (looked_at S) V) (each : HasEach (at_key (key p t) running) V W) where
  abbrev R : State
  R = with_thread S p t Runnable

  runs : thread_of R p t ≡ option_map (λ (before : Thread). Runnable) (thread_of S p t)
  runs = thread_here S p t Runnable

  may_run : (o : Option Thread) → MayWait (option_map (λ (before : Thread). Runnable) o)
  may_run None = tt
  may_run (Some thread) = tt

  running_if : (o : Option Waiting) → HasEntry (looked_at S) p t o → HasEntry (looked_at R) p t (option_map running o)
  running_if None none = runs ∙ ap (option_map (λ (before : Thread). Runnable)) none
  running_if (Some v) entry = running_entry (looked_at R) p t v (here_with S p t Runnable entry.there)

  pub ran_is_held : AreHeld (looked_at R) W
  ran_is_held = record {
    watched = one_entry (looked_at S) R.processes V W before.watched p t small (apart_with S p t Runnable)
        (λ k apart. each k ∙ at_other (key p t) running k (get V k) apart) (subst MayWait (sym runs) (may_run (thread_of S p t)))
        (subst (HasEntry (looked_at R) p t) (sym (each (key p t) ∙ at_that (key p t) running (get V (key p t))))
        (running_if (get V (key p t)) (before.watched.entries p t small)));
    last = last_stays (key p t) running V W each before.last;
  }

-- ---- the start

pub started_is_held : (tree : Tree) (grants : List Grant) (stdin : List ℕ) → AreHeld (looked_at (start_state tree grants stdin)) first_entries
started_is_held tree grants stdin = record {
  watched = start_is_watched tree grants stdin;
  last = get-insert-other empty (key 0 1) fresh (2 ^ 64 - 1) (λ same. absurd (omega (arith, same))) ∙ get-empty nat_cmp (2 ^ 64 - 1);
}
