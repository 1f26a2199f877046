use Rattle.std.proofs.Common.{◌≡◌, length, ◌+◌}
use Rattle.launch_lines.specs.Rows.{indentation}
use Rattle.launch_lines.proofs.lines.indentation.Given as goal

abbrev pub invariant-loop-rest : goal.invariant-loop-rest
invariant-loop-rest l = (l.count + indentation l.rest ≡ indentation l.fn.line) × (l.count + length l.rest ≡ length l.fn.line)

abbrev pub decreases-loop-rest : goal.decreases-loop-rest
decreases-loop-rest l = length l.rest
