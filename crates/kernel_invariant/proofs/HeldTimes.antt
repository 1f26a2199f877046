-- The entries of waiting threads as time goes on.
--     held_at      whoever waits until a moment that has come since, or stands everywhere, is left to be tested
--     all_held_at      so all is kept beside the state
use Rattle.std.proofs.Common.{◌≡◌, ◌≤◌, ℕ, ◌-◌, ◌^◌, Option, Some, None, refl, sym, subst}
use Rattle.std.specs.Ordering.{nat_cmp}
use Rattle.std.specs.FinMap.{FinMap, get}
use Rattle.kernel_model.specs.State.{State}
use Rattle.kernel_model.specs.WaitLaws.{at_moment}
use Rattle.kernel_model.proofs.Tests.{none_is_no}
use Rattle.kernel_model.proofs.Valids.{moment_valid}
use Rattle.kernel_parts.specs.Touching.{HasNoLast}
use Rattle.wait_set.specs.declared.waiting.Waiting.{Waiting}
use Rattle.wait_set.specs.Waits.{WaitMap, is_due, is_everywhere, touched, where_so}
use Rattle.readiness_laws.specs.Watched.{looked_at}
use Rattle.readiness_laws.specs.WatchedChanges.{AreKept, BothKept}
use Rattle.readiness_laws.proofs.WatchedSets.{kept_follows, kept_same, not_touched, touch_keeps}
use Rattle.readiness_laws.proofs.WatchedTimes.{time_is_watched}
use Rattle.kernel_invariant.specs.Held.{AreHeld, IsHeld}

still_none : (v w : Option Waiting) → BothKept v w → v ≡ None → w ≡ None
still_none None None both none = refl
still_none (Some v) None both none = refl
still_none None (Some w) both none = absurd both
still_none (Some v) (Some w) both none = absurd (none_is_no v (sym none))

-- the greatest number stays nobody's
pub no_last_kept : (V W : WaitMap) → AreKept V W → HasNoLast V → HasNoLast W
no_last_kept V W kept none = still_none (get V (2 ^ 64 - 1)) (get W (2 ^ 64 - 1)) (kept.each (2 ^ 64 - 1)) none

module _ (S : State) (later : ℕ) (V : WaitMap) where
  abbrev due : WaitMap
  due = where_so (is_due (Some S.clock) (Some later)) (λ _ s. touched s) V

  abbrev both : WaitMap
  both = where_so is_everywhere (λ _ s. touched s) due

  both_kept : AreKept V both
  both_kept = kept_follows V due both (touch_keeps (is_due (Some S.clock) (Some later)) V) (touch_keeps is_everywhere due)

  pub held_at : AreHeld (looked_at S) V → S.clock ≤ later → AreHeld (looked_at (at_moment S later)) both
  held_at held forward = record {
    watched = time_is_watched S later V both held.watched both_kept forward (λ k w there done. (
      not_touched (is_due (Some S.clock) (Some later)) V k w (kept_same due both (touch_keeps is_everywhere due) k w there done) done,
      not_touched is_everywhere due k w there done,
    ));
    last = no_last_kept V both both_kept held.last;
  }

pub all_held_at : (S : State) (counts : FinMap nat_cmp ℕ) (later : ℕ) (V W : WaitMap) → IsHeld S counts V → S.clock ≤ later
    → W ≡ where_so is_everywhere (λ _ s. touched s) (where_so (is_due (Some S.clock) (Some later)) (λ _ s. touched s) V) → IsHeld (at_moment S later) counts W
all_held_at S counts later V W held forward is = record {
  kept = record {
    valid = moment_valid S later held.kept.valid;
    counted = held.kept.counted;
    few = held.kept.few;
    small = held.kept.small;
    processes = held.kept.processes;
  };
  waits = subst (λ X. AreHeld (looked_at (at_moment S later)) X) (sym is) (held_at S later V held.waits forward);
}
