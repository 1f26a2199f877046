use Rattle.tree_document.proofs.BackDocuments.{printed_document}
use Rattle.tree_document.proofs.laws.what_is_printed_is_a_document.Goals as goal

pub returns : goal.returns
returns c = printed_document
