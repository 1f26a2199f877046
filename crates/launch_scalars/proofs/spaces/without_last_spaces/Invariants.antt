use Rattle.std.proofs.Common.{◌≡◌, length}
use Rattle.launch_scalars.specs.Spaces.{without_last_spaces}
use Rattle.launch_scalars.proofs.spaces.without_last_spaces.Given as goal

abbrev pub invariant-loop-last : goal.invariant-loop-last
invariant-loop-last l = without_last_spaces l.front ≡ without_last_spaces l.fn.bytes

abbrev pub decreases-loop-last : goal.decreases-loop-last
decreases-loop-last l = length l.front
