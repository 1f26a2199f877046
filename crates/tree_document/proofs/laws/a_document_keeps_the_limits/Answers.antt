use Rattle.tree_document.proofs.DocumentLimits.{means_keeps}
use Rattle.tree_document.proofs.laws.a_document_keeps_the_limits.Goals as goal

pub returns : goal.returns
returns c = means_keeps
