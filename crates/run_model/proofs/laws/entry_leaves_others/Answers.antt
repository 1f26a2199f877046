use Rattle.run_model.proofs.Own as own
use Rattle.run_model.proofs.Worlds.{born_guest}
use Rattle.run_model.proofs.laws.entry_leaves_others.Goals as goal

pub returns-clause-left : goal.returns-clause-left
returns-clause-left c = own.others_left

pub returns-clause-born : goal.returns-clause-born
returns-clause-born c = own.born_is_new

pub returns-clause-parents : goal.returns-clause-parents
returns-clause-parents c = λ w e q valid fits there. born_guest w e q there

pub returns-clause-thread : goal.returns-clause-thread
returns-clause-thread c = own.child_has_thread
