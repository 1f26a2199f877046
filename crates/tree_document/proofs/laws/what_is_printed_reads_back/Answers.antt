use Rattle.tree_document.proofs.BackDocuments.{read_back, reads_back}
use Rattle.tree_document.proofs.laws.what_is_printed_reads_back.Goals as goal

pub returns : goal.returns
returns c = record { means = reads_back; read = λ times t read h kept gives. read_back times t h kept read gives }
