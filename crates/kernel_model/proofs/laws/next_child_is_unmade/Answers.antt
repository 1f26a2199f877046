use Rattle.kernel_model.proofs.ChildLaws as children
use Rattle.kernel_model.proofs.laws.next_child_is_unmade.Goals as goal

pub returns : goal.returns
returns c = children.next_child_is_unmade
