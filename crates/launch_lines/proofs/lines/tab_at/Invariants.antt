use Rattle.std.proofs.Common.{◌≡◌, length, ◌+◌}
use Rattle.std.specs.Prelude.{option_map}
use Rattle.launch_lines.specs.Lines.{tab_at}
use Rattle.launch_lines.proofs.lines.tab_at.Given as goal

abbrev pub invariant-loop-rest : goal.invariant-loop-rest
invariant-loop-rest l =
    (option_map (λ n. l.count + n) (tab_at l.rest) ≡ tab_at l.fn.line) × (l.count + length l.rest ≡ length l.fn.line)

abbrev pub decreases-loop-rest : goal.decreases-loop-rest
decreases-loop-rest l = length l.rest
