use Rattle.std.proofs.Common.{◌≡◌, length, drop, false}
use Rattle.launch_values.specs.Tags.{name_length}
use Rattle.launch_lines.proofs.rows.after_name.Given as goal

abbrev pub invariant-loop-rest : goal.invariant-loop-rest
invariant-loop-rest l = drop (name_length false l.rest) l.rest ≡ drop (name_length false l.fn.bytes) l.fn.bytes

abbrev pub decreases-loop-rest : goal.decreases-loop-rest
decreases-loop-rest l = length l.rest
