use Rattle.std.proofs.Common.{◌≡◌, length, ◌+◌}
use Rattle.std.specs.List.{prefix_len}
use Rattle.launch_lines.specs.Lines.{is_no_feed}
use Rattle.launch_lines.proofs.lines.line_length.Given as goal

abbrev pub invariant-loop-rest : goal.invariant-loop-rest
invariant-loop-rest l = (l.count + prefix_len is_no_feed l.rest ≡ prefix_len is_no_feed l.fn.text) × (l.count + length l.rest ≡ length l.fn.text)

abbrev pub decreases-loop-rest : goal.decreases-loop-rest
decreases-loop-rest l = length l.rest
