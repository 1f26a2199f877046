use Rattle.kernel_model.proofs.LockAnswers.{condition_is_signalled}
use Rattle.kernel_model.proofs.LockSignals.{signals_in_turn}
use Rattle.kernel_model.proofs.lock_laws.signals_come_in_turn.Goals as goal

pub returns-clause-turn : goal.returns-clause-turn
returns-clause-turn c = signals_in_turn

pub returns-clause-does : goal.returns-clause-does
returns-clause-does c = condition_is_signalled
