use Rattle.kernel_model.proofs.ChildLaws as children
use Rattle.kernel_model.proofs.laws.process_numbers_are_small.Goals as goal

pub returns-clause-small : goal.returns-clause-small
returns-clause-small c = children.process_numbers_are_small

pub returns-clause-deepest : goal.returns-clause-deepest
returns-clause-deepest c = children.deepest_has_no_child

pub returns-clause-first : goal.returns-clause-first
returns-clause-first c = children.process_0_has_depth_0
