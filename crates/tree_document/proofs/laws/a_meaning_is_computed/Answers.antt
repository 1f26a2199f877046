use Rattle.tree_document.proofs.Computed.{fault_from, meaning_at, meaning_of, means_from}
use Rattle.tree_document.proofs.laws.a_meaning_is_computed.Goals as goal

pub returns : goal.returns
returns c = record {
  tree = λ times bytes t. (means_from times bytes t, meaning_of times bytes t);
  fault = λ times bytes byte. (fault_from times bytes byte, meaning_at times bytes byte);
}
