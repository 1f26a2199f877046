use Rattle.run_report.specs.Walks.{NamesMet}
use Rattle.run_report.proofs.tree_sizes.Walk.meet_names.Given as goal

abbrev pub invariant-loop-place : goal.invariant-loop-place
invariant-loop-place l = NamesMet l.tree l.dir l.fn.self l.place l.self
