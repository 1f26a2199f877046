use Rattle.readiness_laws.proofs.Runners as runners
use Rattle.readiness_laws.proofs.laws.runners_are_counted.Goals as goal

pub returns : goal.returns
returns c = runners.runners_are_counted
