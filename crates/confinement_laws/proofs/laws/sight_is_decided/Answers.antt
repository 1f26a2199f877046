use Rattle.confinement_laws.proofs.Sights as sights
use Rattle.confinement_laws.proofs.laws.sight_is_decided.Goals as goal

pub returns : goal.returns
returns c = sights.sight_is_decided
