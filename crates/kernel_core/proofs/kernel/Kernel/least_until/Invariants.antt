use Rattle.std.specs.Prelude.{◌-◌, ◌^◌}
use Rattle.kernel_parts.proofs.Walks.{passed, IsPast}
use Rattle.kernel_invariant.proofs.HeldDeadlines.{until_at, IsLeastUntil}
use Rattle.kernel_core.proofs.kernel.Kernel.least_until.Given as goal

-- it is the earliest moment of the threads up to the last one
abbrev pub invariant-loop-key : goal.invariant-loop-key
invariant-loop-key l = IsLeastUntil (until_at l.self) (IsPast l.after) l.least

abbrev pub decreases-loop-key : goal.decreases-loop-key
decreases-loop-key l = 2 ^ 64 - passed l.after
