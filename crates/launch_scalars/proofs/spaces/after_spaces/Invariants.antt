use Rattle.std.proofs.Common.{◌≡◌, ◌≤◌, length}
use Rattle.launch_scalars.specs.Spaces.{after_spaces}
use Rattle.launch_scalars.proofs.spaces.after_spaces.Given as goal

abbrev pub invariant-loop-rest : goal.invariant-loop-rest
invariant-loop-rest l = (after_spaces l.rest ≡ after_spaces l.fn.bytes) × (length l.rest ≤ length l.fn.bytes)

abbrev pub decreases-loop-rest : goal.decreases-loop-rest
decreases-loop-rest l = length l.rest
