use Rattle.kernel_model.proofs.Steps.{fork_tells_child}
use Rattle.kernel_model.proofs.laws.forks_tell_child.Goals as goal

pub returns : goal.returns
returns c = fork_tells_child
