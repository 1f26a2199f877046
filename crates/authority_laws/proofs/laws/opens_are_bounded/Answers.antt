use Rattle.authority_laws.proofs.Bounds as bounds
use Rattle.authority_laws.proofs.laws.opens_are_bounded.Goals as goal

pub returns : goal.returns
returns c = bounds.opens_are_bounded
