use Rattle.readiness_laws.proofs.Running as running
use Rattle.readiness_laws.proofs.laws.entries_tell_who_runs.Goals as goal

pub returns : goal.returns
returns c = running.runners_are_told
