use Rattle.readiness_laws.proofs.Marks as laws
use Rattle.readiness_laws.proofs.laws.others_stay_ready.Goals as goal

pub returns-clause-others : goal.returns-clause-others
returns-clause-others c = laws.others_are_as_ready

pub returns-clause-marks : goal.returns-clause-marks
returns-clause-marks c = laws.marks_go_on

pub returns-clause-due : goal.returns-clause-due
returns-clause-due c = laws.due_stays_ready

pub returns-clause-tell : goal.returns-clause-tell
returns-clause-tell c = laws.marks_tell

pub returns-clause-queues : goal.returns-clause-queues
returns-clause-queues c = laws.queues_cover

pub returns-clause-entries : goal.returns-clause-entries
returns-clause-entries c = laws.entries_go_over
