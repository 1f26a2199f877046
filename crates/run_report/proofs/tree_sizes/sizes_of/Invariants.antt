use Rattle.run_report.specs.Walks.{IsGoing, steps_left}
use Rattle.run_report.proofs.tree_sizes.sizes_of.Given as goal

abbrev pub invariant-loop-dir : goal.invariant-loop-dir
invariant-loop-dir l = IsGoing l.tree l.walk

abbrev pub decreases-loop-dir : goal.decreases-loop-dir
decreases-loop-dir l = steps_left l.tree l.walk
