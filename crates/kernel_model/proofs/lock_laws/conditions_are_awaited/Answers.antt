use Rattle.kernel_model.proofs.LockAnswers.{condition_is_asked, condition_wait_ends}
use Rattle.kernel_model.proofs.lock_laws.conditions_are_awaited.Goals as goal

pub returns-clause-asks : goal.returns-clause-asks
returns-clause-asks c = condition_is_asked

pub returns-clause-ends : goal.returns-clause-ends
returns-clause-ends c = condition_wait_ends
