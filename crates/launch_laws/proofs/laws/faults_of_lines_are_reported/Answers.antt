use Rattle.launch_laws.proofs.LineEnds.{lines_are_reported}
use Rattle.launch_laws.proofs.laws.faults_of_lines_are_reported.Goals as goal

pub returns : goal.returns
returns c = lines_are_reported
