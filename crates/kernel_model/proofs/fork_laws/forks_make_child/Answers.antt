use Rattle.kernel_model.proofs.ForkLaws.{fork_makes_child, forks_are_numbered}
use Rattle.kernel_model.proofs.fork_laws.forks_make_child.Goals as goal

pub returns-clause-makes : goal.returns-clause-makes
returns-clause-makes c = fork_makes_child

pub returns-clause-numbers : goal.returns-clause-numbers
returns-clause-numbers c = forks_are_numbered
