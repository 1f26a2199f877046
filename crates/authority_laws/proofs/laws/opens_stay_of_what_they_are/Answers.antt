use Rattle.authority_laws.proofs.OpenStays as stays
use Rattle.authority_laws.proofs.OpenTargets as targets
use Rattle.authority_laws.proofs.laws.opens_stay_of_what_they_are.Goals as goal

pub returns-clause-entries : goal.returns-clause-entries
returns-clause-entries c = stays.opens_stay

pub returns-clause-traced : goal.returns-clause-traced
returns-clause-traced c = targets.traced_stays
