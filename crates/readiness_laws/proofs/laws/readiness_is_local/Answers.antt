use Rattle.readiness_laws.proofs.Locality as locality
use Rattle.readiness_laws.proofs.Standing as standing
use Rattle.readiness_laws.proofs.laws.readiness_is_local.Goals as goal

pub returns-clause-ready : goal.returns-clause-ready
returns-clause-ready c = locality.readiness_is_local

pub returns-clause-places : goal.returns-clause-places
returns-clause-places c = standing.places_stay
