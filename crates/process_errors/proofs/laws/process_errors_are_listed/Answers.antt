use Rattle.process_errors.proofs.ProcessErrors as laws
use Rattle.process_errors.proofs.laws.process_errors_are_listed.Goals as goal

pub returns-clause-exit : goal.returns-clause-exit
returns-clause-exit c = laws.exit_is_listed

pub returns-clause-raise : goal.returns-clause-raise
returns-clause-raise c = laws.raise_is_listed

pub returns-clause-fork : goal.returns-clause-fork
returns-clause-fork c = laws.fork_is_listed

pub returns-clause-exec : goal.returns-clause-exec
returns-clause-exec c = laws.exec_is_listed
