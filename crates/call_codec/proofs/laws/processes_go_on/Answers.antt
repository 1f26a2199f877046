use Rattle.call_codec.proofs.ProcessLaws.{child_goes_on, exec_bounds, fork_turns, raised_signal}
use Rattle.call_codec.proofs.laws.processes_go_on.Goals as goal

pub returns-clause-child : goal.returns-clause-child
returns-clause-child c = child_goes_on

pub returns-clause-fork : goal.returns-clause-fork
returns-clause-fork c = fork_turns

pub returns-clause-exec : goal.returns-clause-exec
returns-clause-exec c = exec_bounds

pub returns-clause-raise : goal.returns-clause-raise
returns-clause-raise c = raised_signal
