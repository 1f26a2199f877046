-- What was asked for and what is left are all.
use Rattle.std.proofs.Common.{◌≡◌}
use Rattle.launch_plan.specs.Files.{asked_with}
use Rattle.launch_plan.proofs.FileParts.{asked_at}
use Rattle.launch_plan.proofs.files.asked_of.Given as goal

abbrev pub invariant-loop-key : goal.invariant-loop-key
invariant-loop-key l = asked_with l.asked (asked_at l.tree l.pairs l.key-index) ≡ asked_at l.tree l.pairs 0
