use Rattle.kernel_model.proofs.LockAnswers.{lock_is_asked, lock_wait_ends}
use Rattle.kernel_model.proofs.lock_laws.locks_are_asked.Goals as goal

pub returns-clause-asks : goal.returns-clause-asks
returns-clause-asks c = lock_is_asked

pub returns-clause-ends : goal.returns-clause-ends
returns-clause-ends c = lock_wait_ends
