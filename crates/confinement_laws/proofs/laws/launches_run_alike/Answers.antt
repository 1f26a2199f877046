use Rattle.confinement_laws.proofs.AlikeRuns as runs
use Rattle.confinement_laws.proofs.laws.launches_run_alike.Goals as goal

pub returns : goal.returns
returns c = runs.launches_run_alike
