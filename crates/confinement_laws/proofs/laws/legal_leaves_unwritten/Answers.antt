use Rattle.confinement_laws.proofs.Unwritten as unwritten
use Rattle.confinement_laws.proofs.laws.legal_leaves_unwritten.Goals as goal

pub returns : goal.returns
returns c = unwritten.legal_leaves_unwritten
