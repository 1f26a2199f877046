use Rattle.call_laws.proofs.EndedCalls.{exit_ends, raise_ends}
use Rattle.call_laws.proofs.laws.processes_end_as_told.Goals as goal

pub returns-clause-exit : goal.returns-clause-exit
returns-clause-exit c = exit_ends

pub returns-clause-raise : goal.returns-clause-raise
returns-clause-raise c = raise_ends
