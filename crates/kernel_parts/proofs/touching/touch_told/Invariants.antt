use Rattle.std.proofs.Common.{take}
use Rattle.kernel_parts.specs.Touching.{HasEach, is_among, left_if}
use Rattle.kernel_parts.proofs.touching.touch_told.Given as goal

abbrev pub invariant-loop-number : goal.invariant-loop-number
invariant-loop-number l = HasEach (λ k. left_if (is_among l.pid (take l.number-index l.told.numbers) k)) l.fn.waits l.waits
