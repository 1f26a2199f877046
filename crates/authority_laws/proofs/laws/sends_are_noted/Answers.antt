use Rattle.authority_laws.proofs.NotedSends as noted
use Rattle.authority_laws.proofs.laws.sends_are_noted.Goals as goal

pub returns : goal.returns
returns c = noted.sends_are_noted
