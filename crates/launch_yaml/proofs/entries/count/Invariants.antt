use Rattle.std.proofs.Common.{◌≡◌, ◌+◌, length}
use Rattle.std.specs.List.{prefix_len}
use Rattle.launch_lines.specs.Views.{rows, AllWithin}
use Rattle.launch_yaml.specs.Entries.{belongs_there}
use Rattle.launch_yaml.proofs.entries.count.Given as goal

abbrev pub invariant-loop-rest : goal.invariant-loop-rest
invariant-loop-rest l =
    (l.count + prefix_len (belongs_there l.column l.items) (rows l.text l.rest) ≡ prefix_len (belongs_there l.fn.column l.fn.items) (rows l.fn.text l.fn.lines))
    × (l.count + length l.rest ≡ length l.fn.lines)
    × AllWithin l.text l.rest

abbrev pub decreases-loop-rest : goal.decreases-loop-rest
decreases-loop-rest l = length l.rest
