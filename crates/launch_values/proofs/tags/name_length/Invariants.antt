use Rattle.std.proofs.Common.{◌≡◌, length, ◌+◌}
use Rattle.launch_values.specs.Tags.{name_length}
use Rattle.launch_values.proofs.tags.name_length.Given as goal

abbrev pub invariant-loop-rest : goal.invariant-loop-rest
invariant-loop-rest l = (l.count + name_length l.in_flow l.rest ≡ name_length l.fn.in_flow l.fn.bytes) × (l.count + length l.rest ≡ length l.fn.bytes)

abbrev pub decreases-loop-rest : goal.decreases-loop-rest
decreases-loop-rest l = length l.rest
