use Rattle.readiness_laws.proofs.Beginning as beginning
use Rattle.readiness_laws.proofs.Places as places
use Rattle.readiness_laws.proofs.Telling as telling
use Rattle.readiness_laws.proofs.laws.places_are_kept.Goals as goal

pub returns-clause-kept : goal.returns-clause-kept
returns-clause-kept c = places.places_are_kept

pub returns-clause-begins : goal.returns-clause-begins
returns-clause-begins c = beginning.begins_unready

pub returns-clause-told : goal.returns-clause-told
returns-clause-told c = telling.told_are_ready
