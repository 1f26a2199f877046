use Rattle.std.proofs.Common.{◌≡◌, ◌+◌, ◌≤◌, ℕ, drop}
use Rattle.std.specs.FinMap as map
use Rattle.kernel_model.specs.Release.{count_carried}
use Rattle.maps.specs.Maps.{number}
use Rattle.channel_calls.proofs.letting_go.let_go_all.Given as goal

-- those that are left are still counted, and nothing else was let go
abbrev pub invariant-loop-descriptor : goal.invariant-loop-descriptor
invariant-loop-descriptor l = record {
  kinds : l.objects.kinds ≡ l.fn.objects.kinds;
  covered : (o : ℕ) → count_carried o (drop l.descriptor-index l.descriptors) ≤ number (map.get l.objects.counts o);
  counts : (o : ℕ) → number (map.get l.objects.counts o) + count_carried o l.descriptors ≡ number (map.get l.fn.objects.counts o) + count_carried o (drop l.descriptor-index l.descriptors);
}
