use Rattle.process_errors.proofs.ThreadErrors as laws
use Rattle.process_errors.proofs.laws.thread_errors_are_listed.Goals as goal

pub returns-clause-create : goal.returns-clause-create
returns-clause-create c = laws.thread_create_is_listed

pub returns-clause-yields : goal.returns-clause-yields
returns-clause-yields c = laws.thread_yield_is_listed

pub returns-clause-lets_go : goal.returns-clause-lets_go
returns-clause-lets_go c = laws.lock_is_let_go_as_listed
