use Rattle.kernel_model.proofs.ThreadLaws.{exit_ends_one, exit_lets_go, locks_are_let_go}
use Rattle.kernel_model.proofs.thread_laws.threads_end_alone.Goals as goal

pub returns-clause-words : goal.returns-clause-words
returns-clause-words c = locks_are_let_go

pub returns-clause-lock : goal.returns-clause-lock
returns-clause-lock c = exit_lets_go

pub returns-clause-one : goal.returns-clause-one
returns-clause-one c = exit_ends_one
