-- Entries whose threads are tested as it is asked who is ready.
--     tells      what the code tests tells whether a thread is ready
--     tested_is_held      some are tested, and those that stand everywhere note anew where they stand
--     next_of_tested      the next ready thread
--     marked_is      the mark of a thread
use Rattle.std.proofs.Common.{◌≡◌, ℕ, ◌-◌, ◌^◌, ◌<◌, Bool, inl, inr, List, Option, None, Some, refl, sym, ap, subst, ◌∙◌}
use Rattle.std.specs.Option.{option_map}
use Rattle.std.specs.FinMap.{get}
use Rattle.abi_types.specs.declared.constants.Constants.{Constants}
use Rattle.abi_types.specs.declared.thread.Thread.{Thread}
use Rattle.abi_types.specs.declared.thread.Thread.TheVariants.{Runnable, Waits}
use Rattle.kernel_model.specs.State.{State, thread_of}
use Rattle.kernel_model.specs.Waits.{HasDeadlines}
use Rattle.kernel_model.specs.Wakes.{is_ready, is_ready_as}
use Rattle.kernel_parts.specs.Keys.{key}
use Rattle.kernel_parts.specs.Touching.{HasNoLast}
use Rattle.wait_set.specs.declared.spot.Spot.{Spot}
use Rattle.wait_set.specs.declared.waiting.Waiting.{Waiting}
use Rattle.wait_set.specs.Next.{IsNext}
use Rattle.wait_set.specs.Waits.{AreTested, IsExact, WaitMap, is_up, mark_of, tested}
use Rattle.readiness_laws.specs.NextReady.{IsNextReady, thread_at}
use Rattle.readiness_laws.specs.Watched.{HasEntry, IsWatched, looked_at}
use Rattle.readiness_laws.specs.WatchLaws.{IsSmall, TellsReady, number_of}
use Rattle.readiness_laws.proofs.Keys.{key_of, key_parts, key_small}
use Rattle.readiness_laws.proofs.NextReady.{mark_tells, marks_are_exact, next_is_ready}
use Rattle.readiness_laws.proofs.Noted.{covers_by_parts, stood_again}
use Rattle.readiness_laws.proofs.Tested.{tested_is_watched}
use Rattle.kernel_invariant.specs.Held.{AreHeld}
use Rattle.kernel_invariant.specs.Readiness.{places_by_key, ready_by_key, waits_no_more, HasGathered, IsGathered}
use Rattle.kernel_invariant.proofs.HeldEntries.{last_gathered}
use Rattle.kernel_invariant.proofs.HeldPlaces.{places_cover}
use Rattle.kernel_invariant.proofs.Waiters.{ready_by}

number_again : (after : Option ℕ) → number_of (option_map thread_at after) ≡ after
number_again None = refl
number_again (Some k) = ap Some (key_of k)

small_name : (after : Option ℕ) → IsSmall (option_map thread_at after)
small_name None = tt
small_name (Some k) = key_small k

module _ (constants : Constants) (S : State) where
  abbrev ready : ℕ → Bool
  ready = ready_by_key constants S.opens S.chans S.statuses S.clock S.tables S.processes

  abbrev places : ℕ → List Spot
  places = places_by_key S.opens S.tables S.processes

  ready_as : (p t : ℕ) (o : Option Thread) → thread_of S p t ≡ o → waits_no_more constants S.opens S.chans S.statuses S.clock (get S.tables p) o ≡ is_ready constants S p t
  ready_as p t None is = ap (is_ready_as constants S p t) (sym is)
  ready_as p t (Some Runnable) is = ap (is_ready_as constants S p t) (sym is)
  ready_as p t (Some (Waits call since until stage)) is = ready_by constants S p t call since until stage is

  pub tells : (W : WaitMap) → TellsReady constants S W ready
  tells W p t w small there =
      let parts = key_parts p t small in
      (λ i. waits_no_more constants S.opens S.chans S.statuses S.clock (get S.tables (parts.0 i)) (thread_of S (parts.0 i) (parts.1 i)))
      ∙ ready_as p t (thread_of S p t) refl

  -- ---- those that stand everywhere note anew where they stand

  anew_entry : (p t : ℕ) → t < 2 ^ 32 → (before after : Option Waiting) → HasEntry (looked_at S) p t before → HasGathered (places (key p t)) before after
      → HasEntry (looked_at S) p t after
  anew_entry p t small None after entry has = subst (HasEntry (looked_at S) p t) (sym has) entry
  anew_entry p t small (Some v) after entry has =
      subst (HasEntry (looked_at S) p t) (sym has.1)
      (elim has.2 [
        | inl same ↦ subst (HasEntry (looked_at S) p t) (ap Some (sym same)) entry
        | inr stands ↦ stood_again (looked_at S) p t (places (key p t)) v has.0 (covers_by_parts S p t (places (key p t)) (places_cover S p t small)) stands entry
      ])

  gathered_watched : (U W : WaitMap) → IsWatched S U → IsGathered places U W → IsWatched S W
  gathered_watched U W watched gathered = record {
    may = watched.may;
    small = watched.small;
    entries = λ p t small. anew_entry p t small (get U (key p t)) (get W (key p t)) (watched.entries p t small) (gathered (key p t));
  }

  last_tested : (V U : WaitMap) → AreTested ready V U → HasNoLast V → HasNoLast U
  last_tested V U are none =
      elim (are (2 ^ 64 - 1)) [
        | inl same ↦ same ∙ none
        | inr done ↦ done.1 ∙ ap (option_map (tested (ready (2 ^ 64 - 1)))) none
      ]

  module _ (V : WaitMap) (before : AreHeld (looked_at S) V) (deadlines : HasDeadlines constants S) where
    pub tested_is_held : (U W : WaitMap) → AreTested ready V U → IsGathered places U W → AreHeld (looked_at S) W
    tested_is_held U W are gathered = record {
      watched = gathered_watched U W (tested_is_watched constants S V U before.watched deadlines ready (tells V) are) gathered;
      last = last_gathered places U W gathered (last_tested V U are before.last);
    }

    -- ---- the next ready thread, and marks

    pub next_of_tested : (after result : Option ℕ) → (IsExact ready V → IsNext (λ k. is_up ready (get V k) k) after result)
        → IsNextReady constants S (option_map thread_at after) (option_map thread_at result)
    next_of_tested after result next =
        next_is_ready constants S V before.watched ready (tells V) (option_map thread_at after) (small_name after) result
        (subst (λ a. IsNext (λ k. is_up ready (get V k) k) a result) (sym (number_again after))
        (next (marks_are_exact constants S V before.watched deadlines ready (tells V))))

    pub marked_is : (p t : ℕ) → t < 2 ^ 32 → (b : Bool) → mark_of (get V (key p t)) ≡ Some b → is_ready constants S p t ≡ b
    marked_is p t small b is = mark_tells constants S V before.watched p t small (deadlines p t) b is
