use Rattle.std.specs.Prelude.{◌-◌, ◌^◌}
use Rattle.kernel_parts.proofs.Walks.{passed}
use Rattle.kernel_invariant.specs.Readiness.{places_by_key, IsGathered}
use Rattle.kernel_invariant.proofs.readiness.gather.Given as goal

-- some note anew where they stand
abbrev pub invariant-loop-key : goal.invariant-loop-key
invariant-loop-key l = IsGathered (places_by_key l.objects.kinds l.tables l.processes) l.fn.waits l.waits

abbrev pub decreases-loop-key : goal.decreases-loop-key
decreases-loop-key l = 2 ^ 64 - passed l.after
