use Rattle.kernel_model.proofs.ForkLaws.{exec_begins}
use Rattle.kernel_model.proofs.fork_laws.execs_begin_listed.Goals as goal

pub returns : goal.returns
returns c = exec_begins
