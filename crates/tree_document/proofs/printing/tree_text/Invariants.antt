-- the rows that were met are printed, and the others are left
use Rattle.tree_document.specs.Left.{IsGoing, steps_left}
use Rattle.tree_document.proofs.printing.tree_text.Given as goal

abbrev pub invariant-loop-frame : goal.invariant-loop-frame
invariant-loop-frame l = IsGoing l.tree l.printed.text.items l.printed.records l.printed.firsts l.frames.items

abbrev pub decreases-loop-frame : goal.decreases-loop-frame
decreases-loop-frame l = steps_left l.tree l.frames.items
