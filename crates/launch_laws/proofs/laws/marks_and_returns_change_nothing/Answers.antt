use Rattle.launch_laws.proofs.LineEnds.{mark_changes_nothing, returns_change_nothing}
use Rattle.launch_laws.proofs.laws.marks_and_returns_change_nothing.Goals as goal

pub returns : goal.returns
returns c = record { mark = mark_changes_nothing; returns = returns_change_nothing }
