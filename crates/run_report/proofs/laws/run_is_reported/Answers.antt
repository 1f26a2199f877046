use Rattle.run_report.proofs.RunEnds.{end_is_reported, stall_is_reported}
use Rattle.run_report.proofs.laws.run_is_reported.Goals as goal

pub returns-clause-ended : goal.returns-clause-ended
returns-clause-ended c = end_is_reported

pub returns-clause-stalled : goal.returns-clause-stalled
returns-clause-stalled c = stall_is_reported
