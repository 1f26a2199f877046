use Rattle.authority_laws.proofs.Histories as histories
use Rattle.authority_laws.proofs.laws.rights_never_grow.Goals as goal

pub returns-clause-held : goal.returns-clause-held
returns-clause-held c = histories.rights_never_grow

pub returns-clause-sent : goal.returns-clause-sent
returns-clause-sent c = histories.sends_are_held
