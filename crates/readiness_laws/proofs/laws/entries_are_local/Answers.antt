use Rattle.readiness_laws.proofs.Changing as laws
use Rattle.readiness_laws.proofs.laws.entries_are_local.Goals as goal

pub returns-clause-steps : goal.returns-clause-steps
returns-clause-steps c = laws.steps_are_local

pub returns-clause-wakes : goal.returns-clause-wakes
returns-clause-wakes c = laws.wakes_are_local

pub returns-clause-ends : goal.returns-clause-ends
returns-clause-ends c = laws.ends_are_local

pub returns-clause-jumps : goal.returns-clause-jumps
returns-clause-jumps c = laws.jumps_are_local
