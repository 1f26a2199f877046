use Rattle.std.proofs.Common.{◌≡◌, length, ◌+◌}
use Rattle.launch_scalars.specs.Plain.{plain_length}
use Rattle.launch_scalars.proofs.plain.plain_length.Given as goal

abbrev pub invariant-loop-rest : goal.invariant-loop-rest
invariant-loop-rest l = (l.count + plain_length l.in_flow l.rest ≡ plain_length l.fn.in_flow l.fn.bytes) × (l.count + length l.rest ≡ length l.fn.bytes)

abbrev pub decreases-loop-rest : goal.decreases-loop-rest
decreases-loop-rest l = length l.rest
