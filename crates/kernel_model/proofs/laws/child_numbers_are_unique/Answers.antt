use Rattle.kernel_model.proofs.ChildLaws as children
use Rattle.kernel_model.proofs.laws.child_numbers_are_unique.Goals as goal

pub returns-clause-numbers : goal.returns-clause-numbers
returns-clause-numbers c = children.child_numbers_are_unique

pub returns-clause-depths : goal.returns-clause-depths
returns-clause-depths c = children.each_has_one_depth
