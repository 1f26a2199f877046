use Rattle.kernel_model.proofs.LockTurns.{in_turn, word_tells_owner}
use Rattle.kernel_model.proofs.lock_laws.locks_are_handed_on.Goals as goal

pub returns-clause-turn : goal.returns-clause-turn
returns-clause-turn c = in_turn

pub returns-clause-word : goal.returns-clause-word
returns-clause-word c = word_tells_owner
