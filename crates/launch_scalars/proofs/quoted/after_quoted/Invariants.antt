use Rattle.std.proofs.Common.{◌≡◌, ◌≤◌, length}
use Rattle.launch_scalars.specs.Quoted.{quoted}
use Rattle.launch_scalars.proofs.quoted.after_quoted.Given as goal

abbrev pub invariant-loop-rest : goal.invariant-loop-rest
invariant-loop-rest l = ((quoted l.quote l.rest).rest ≡ (quoted l.quote l.fn.bytes).rest) × (length l.rest ≤ length l.fn.bytes)

abbrev pub decreases-loop-rest : goal.decreases-loop-rest
decreases-loop-rest l = length l.rest
