use Rattle.kernel_model.proofs.Threads.{waited_keeps}
use Rattle.kernel_model.proofs.laws.waited_keeps_threads.Goals as goal

pub returns : goal.returns
returns c = waited_keeps
