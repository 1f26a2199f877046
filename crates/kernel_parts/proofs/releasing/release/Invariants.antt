use Rattle.std.specs.FinMap.{len}
use Rattle.kernel_parts.specs.Released.{state_by}
use Rattle.kernel_parts.specs.Touched.{IsTouched}
use Rattle.kernel_parts.specs.Touching.{HasNoLast}
use Rattle.kernel_parts.proofs.Releases.{IsGoing}
use Rattle.kernel_parts.proofs.releasing.release.Given as goal

-- some opens have gone, with all that goes with them, and the nodes that are no longer used; and those who wait are touched so far
abbrev pub invariant-loop-kind : goal.invariant-loop-kind
invariant-loop-kind l =
    IsGoing (state_by l.fn.tables l.fn.processes l.fn.statuses l.fn.objects.kinds l.fn.channels l.fn.tree) l.fn.tree l.tables l.processes l.statuses l.channels
    l.objects l.tree
    × (HasNoLast l.fn.waits → IsTouched (state_by l.fn.tables l.fn.processes l.fn.statuses l.fn.objects.kinds l.fn.channels l.fn.tree)
    (state_by l.tables l.processes l.statuses l.objects.kinds l.channels l.tree) l.fn.waits l.waits)

abbrev pub decreases-loop-kind : goal.decreases-loop-kind
decreases-loop-kind l = len l.objects.kinds
