use Rattle.tree_document.proofs.Meanings.{one_fault, one_tree, tree_or_fault}
use Rattle.tree_document.proofs.laws.a_text_has_one_meaning.Goals as goal

pub returns : goal.returns
returns c = record { tree = one_tree; fault = one_fault; apart = tree_or_fault }
