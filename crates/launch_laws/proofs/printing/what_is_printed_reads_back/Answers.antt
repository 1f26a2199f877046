use Rattle.launch_laws.proofs.PrintedDocuments.{printed_reads_back}
use Rattle.launch_laws.proofs.printing.what_is_printed_reads_back.Goals as goal

pub returns : goal.returns
returns c = printed_reads_back
