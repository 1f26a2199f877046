use Rattle.std.proofs.Common.{◌+◌, ◌*◌}
use Rattle.reader_tests.proofs.launch_texts.printing.Printer.+print.Given as goal

abbrev pub decreases-node : goal.decreases-node
decreases-node l = 2 * l.depth + 1

abbrev pub decreases-pairs : goal.decreases-pairs
decreases-pairs l = 2 * l.depth

abbrev pub decreases-items : goal.decreases-items
decreases-items l = 2 * l.depth
