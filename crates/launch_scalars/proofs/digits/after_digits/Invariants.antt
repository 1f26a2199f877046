use Rattle.std.proofs.Common.{◌≡◌, ◌≤◌, length}
use Rattle.launch_scalars.specs.Numbers.{after_digits}
use Rattle.launch_scalars.proofs.digits.after_digits.Given as goal

abbrev pub invariant-loop-rest : goal.invariant-loop-rest
invariant-loop-rest l = (after_digits l.rest ≡ after_digits l.fn.bytes) × (length l.rest ≤ length l.fn.bytes)

abbrev pub decreases-loop-rest : goal.decreases-loop-rest
decreases-loop-rest l = length l.rest
