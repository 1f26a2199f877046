use Rattle.confinement_laws.proofs.Runs as runs
use Rattle.confinement_laws.proofs.laws.legal_is_confined_history.Goals as goal

pub returns : goal.returns
returns c = runs.legal_is_confined_history
