use Rattle.confinement_laws.proofs.Needs as needs
use Rattle.confinement_laws.proofs.laws.needs_are_listed.Goals as goal

pub returns : goal.returns
returns c = needs.needs_are_listed
