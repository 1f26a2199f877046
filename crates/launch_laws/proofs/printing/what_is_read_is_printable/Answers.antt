use Rattle.launch_laws.proofs.ReadDocuments.{read_is_encodable, read_is_printable}
use Rattle.launch_laws.proofs.printing.what_is_read_is_printable.Goals as goal

pub returns : goal.returns
returns c = record { encodable = read_is_encodable; printable = read_is_printable }
