use Rattle.std.proofs.Common.{◌≡◌, ◌≤◌, ◌^◌, length}
use Rattle.launch_scalars.specs.Numbers.{all_digits, number_behind}
use Rattle.launch_scalars.specs.Capped.{capped}
use Rattle.launch_scalars.proofs.digits.number.Given as goal

abbrev pub invariant-loop-rest : goal.invariant-loop-rest
invariant-loop-rest l =
    (all_digits l.base l.rest ≡ all_digits l.base l.fn.bytes)
    × (capped (number_behind l.base l.number l.rest) ≡ capped (number_behind l.base 0 l.fn.bytes))
    × (l.number ≤ 2 ^ 64)

abbrev pub decreases-loop-rest : goal.decreases-loop-rest
decreases-loop-rest l = length l.rest
