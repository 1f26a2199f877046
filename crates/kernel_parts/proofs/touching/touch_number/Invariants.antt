use Rattle.std.specs.Prelude.{◌-◌, ◌^◌}
use Rattle.kernel_parts.specs.Touching.{HasEach, spread_if}
use Rattle.kernel_parts.proofs.Walks.{passed}
use Rattle.kernel_parts.proofs.Concerned.{done_until}
use Rattle.kernel_parts.proofs.touching.touch_number.Given as goal

-- those up to the last one are spread
abbrev pub invariant-loop-number : goal.invariant-loop-number
invariant-loop-number l = HasEach (λ k. spread_if (done_until l.pid l.fd l.own.threads l.last k)) l.fn.waits l.waits

abbrev pub decreases-loop-number : goal.decreases-loop-number
decreases-loop-number l = 2 ^ 64 - passed l.last
