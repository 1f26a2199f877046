use Rattle.std.proofs.Common.{◌≡◌, length, ◌+◌}
use Rattle.std.specs.List.{prefix_len}
use Rattle.launch_yaml.specs.Document.{is_inside}
use Rattle.launch_lines.specs.Views.{rows, AllWithin}
use Rattle.launch_yaml.proofs.document.count_inside.Given as goal

abbrev pub invariant-loop-rest : goal.invariant-loop-rest
invariant-loop-rest l =
    (l.count + prefix_len (is_inside l.column) (rows l.text l.rest) ≡ prefix_len (is_inside l.fn.column) (rows l.fn.text l.fn.lines))
    × (l.count + length l.rest ≡ length l.fn.lines) × AllWithin l.text l.rest

abbrev pub decreases-loop-rest : goal.decreases-loop-rest
decreases-loop-rest l = length l.rest
