use Rattle.authority_laws.proofs.SendNumbers as numbers
use Rattle.authority_laws.proofs.laws.sends_are_numbered.Goals as goal

pub returns : goal.returns
returns c = numbers.sends_are_numbered
