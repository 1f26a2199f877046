use Rattle.confinement_laws.proofs.Missing as missing
use Rattle.confinement_laws.proofs.laws.missing_is_exact.Goals as goal

pub returns : goal.returns
returns c = missing.missing_is_exact
