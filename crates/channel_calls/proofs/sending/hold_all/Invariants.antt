use Rattle.std.proofs.Common.{◌≡◌, ℕ, ◌+◌, ◌≤◌, drop}
use Rattle.std.specs.FinMap.{get}
use Rattle.maps.specs.Maps.{number}
use Rattle.kernel_model.specs.Release.{count_carried}
use Rattle.channel_calls.specs.Sends.{AreCarriable, AreHeld}
use Rattle.channel_calls.proofs.sending.hold_all.Given as goal

-- those that are left bring the counts to what all of them do
abbrev pub invariant-loop-descriptor : goal.invariant-loop-descriptor
invariant-loop-descriptor l = record {
  kinds : l.objects.kinds ≡ l.initial.objects.kinds;
  counts : (o : ℕ) → number (get l.objects.counts o) + count_carried o (drop l.descriptor-index l.carried)
      ≡ number (get l.initial.objects.counts o) + count_carried o l.carried;
  more : (o : ℕ) → number (get l.initial.objects.counts o) ≤ number (get l.objects.counts o);
  held : AreHeld l.initial.objects.counts (drop l.descriptor-index l.carried);
  carriable : AreCarriable l.initial.objects.counts (drop l.descriptor-index l.carried);
}
