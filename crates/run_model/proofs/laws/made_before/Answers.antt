use Rattle.run_model.proofs.Own as own
use Rattle.run_model.proofs.laws.made_before.Goals as goal

pub returns-clause-none : goal.returns-clause-none
returns-clause-none c = own.unmade_does_nothing

pub returns-clause-child : goal.returns-clause-child
returns-clause-child c = own.child_did_nothing
