use Rattle.kernel_model.proofs.LockAnswers.{lock_comes_back, lock_is_let_go}
use Rattle.kernel_model.proofs.lock_laws.locks_are_let_go.Goals as goal

pub returns-clause-goes : goal.returns-clause-goes
returns-clause-goes c = lock_is_let_go

pub returns-clause-back : goal.returns-clause-back
returns-clause-back c = lock_comes_back
