use Rattle.kernel_model.proofs.OpenTargets as targets
use Rattle.kernel_model.proofs.open_laws.opens_stay_of_what_they_are.Goals as goal

pub returns-clause-step : goal.returns-clause-step
returns-clause-step c = targets.opens_stay

pub returns-clause-end : goal.returns-clause-end
returns-clause-end c = targets.ends_keep_opens
