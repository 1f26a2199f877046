-- Entries once some of those that are left were tested.
--     tested_entry      one
--     tested_is_watched      where the test tells whether each thread is ready
use Rattle.std.proofs.Common.{◌≡◌, ℕ, ◌^◌, ◌<◌, Bool, inl, inr, Option, None, Some, refl, sym, subst, ◌∙◌}
use Rattle.std.specs.FinMap.{get}
use Rattle.std.specs.Option.{option_map}
use Rattle.abi_types.specs.declared.constants.Constants.{Constants}
use Rattle.kernel_model.specs.State.{State, thread_of}
use Rattle.kernel_model.specs.Waits.{HasDeadline, HasDeadlines, MayWait}
use Rattle.kernel_model.specs.Wakes.{is_ready}
use Rattle.kernel_parts.specs.Keys.{key}
use Rattle.wait_set.specs.declared.waiting.Waiting.{Waiting}
use Rattle.wait_set.specs.Waits.{AreTested, WaitMap, tested}
use Rattle.readiness_laws.specs.Spots.{Spot, on_channel, on_end, on_flags, on_moment, on_open, on_table, on_thread, spots}
use Rattle.readiness_laws.specs.Watched.{AreEntries, HasEntry, IsEntry, IsWatched, StandsAt, looked_at}
use Rattle.readiness_laws.specs.WatchLaws.{TellsReady}
use Rattle.readiness_laws.proofs.Alike.{ready_by_any, ready_by_parts}
use Rattle.readiness_laws.proofs.LookedAt.{all_lead}

tested_stands : (b : Bool) (w : Waiting) (spot : Spot) → StandsAt w spot → StandsAt (tested b w) spot
tested_stands b w (on_channel c) at = at
tested_stands b w (on_end q) at = at
tested_stands b w (on_table p) at = tt
tested_stands b w (on_open o) at = tt
tested_stands b w (on_flags o) at = tt
tested_stands b w (on_thread p t) at = tt
tested_stands b w (on_moment m) at = tt

module _ (constants : Constants) (S : State) (p t : ℕ) (may : MayWait (thread_of S p t)) (deadline : HasDeadline constants (thread_of S p t)) where
  pub tested_entry : (b : Bool) (w : Waiting) → b ≡ is_ready constants S p t → IsEntry S p t w → IsEntry S p t (tested b w)
  tested_entry b w tells entry = record {
    moments = entry.moments;
    places = all_lead (StandsAt w) (StandsAt (tested b w)) (tested_stands b w) (spots S p t) entry.places;
    marks = λ other done until. tells ∙ ready_by_any constants other S p t may deadline until;
    there = entry.there;
    runs = entry.runs;
  }

module _ (constants : Constants) (S : State) (V W : WaitMap) (before : AreEntries S V) (deadlines : HasDeadlines constants S) (ready : ℕ → Bool)
    (tells : TellsReady constants S V ready) (are : AreTested ready V W) where
  tested_or_none : (p t : ℕ) (o : Option Waiting) → ((w : Waiting) → o ≡ Some w → ready (key p t) ≡ is_ready constants S p t) → HasEntry S p t o
      → HasEntry S p t (option_map (tested (ready (key p t))) o)
  tested_or_none p t None tell none = none
  tested_or_none p t (Some w) tell entry = tested_entry constants S p t (before.may p t) (deadlines p t) (ready (key p t)) w (tell w refl) entry

  each_tested : (p t : ℕ) → t < 2 ^ 32 → HasEntry S p t (get W (key p t))
  each_tested p t small =
      elim (are (key p t)) [
        | inl same ↦ subst (HasEntry S p t) (sym same) (before.entries p t small)
        | inr anew ↦
            subst (HasEntry S p t) (sym anew.1)
            (tested_or_none p t (get V (key p t)) (λ w is. tells p t w small is) (before.entries p t small))
      ]

  pub tested_entries : AreEntries S W
  tested_entries = record { may = before.may; small = before.small; entries = each_tested }

pub tested_is_watched : (constants : Constants) (S : State) (V W : WaitMap) → IsWatched S V → HasDeadlines constants S → (ready : ℕ → Bool)
    → TellsReady constants S V ready → AreTested ready V W → IsWatched S W
tested_is_watched constants S V W before deadlines ready tells are =
    tested_entries constants (looked_at S) V W before deadlines ready
    (λ p t w small there. tells p t w small there ∙ sym (ready_by_parts constants S p t (before.may p t) (deadlines p t))) are
