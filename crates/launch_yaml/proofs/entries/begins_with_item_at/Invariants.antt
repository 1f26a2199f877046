use Rattle.std.proofs.Common.{◌≡◌, length}
use Rattle.launch_lines.specs.Views.{rows, AllWithin}
use Rattle.launch_yaml.specs.Entries.{begins_with_item_at}
use Rattle.launch_yaml.proofs.entries.begins_with_item_at.Given as goal

abbrev pub invariant-loop-rest : goal.invariant-loop-rest
invariant-loop-rest l =
    (begins_with_item_at l.column (rows l.text l.rest) ≡ begins_with_item_at l.fn.column (rows l.fn.text l.fn.lines))
    × AllWithin l.text l.rest

abbrev pub decreases-loop-rest : goal.decreases-loop-rest
decreases-loop-rest l = length l.rest
