use Rattle.tree_document.proofs.StartTrees.{meaning_of_none, meaning_start, means_start, root_start}
use Rattle.tree_document.proofs.laws.a_launch_may_begin_with_a_document.Goals as goal

pub returns : goal.returns
returns c = record { tree = means_start; computed = meaning_start; none = meaning_of_none; root = root_start }
