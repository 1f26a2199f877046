use Rattle.readiness_laws.proofs.Few as few
use Rattle.readiness_laws.proofs.laws.spots_are_few.Goals as goal

pub returns : goal.returns
returns c = few.spots_are_few
