use Rattle.run_model.proofs.ThreadLaws as laws
use Rattle.run_model.proofs.thread_laws.draws_are_apart.Goals as goal

pub returns-clause-own : goal.returns-clause-own
returns-clause-own c = laws.draw_is_own

pub returns-clause-apart : goal.returns-clause-apart
returns-clause-apart c = laws.draws_are_apart

pub returns-clause-canary : goal.returns-clause-canary
returns-clause-canary c = laws.canary_is_apart
