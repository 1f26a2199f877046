use Rattle.call_laws.proofs.Names.{names_change}
use Rattle.call_laws.proofs.laws.names_change_as_asked.Goals as goal

pub returns : goal.returns
returns c = names_change
