use Rattle.transfer_laws.proofs.Shuts.{shuts_as_asked}
use Rattle.transfer_laws.proofs.laws.sockets_are_shut_as_asked.Goals as goal

pub returns : goal.returns
returns c = shuts_as_asked
