use Rattle.kernel_model.proofs.Decisions as decisions
use Rattle.kernel_model.proofs.laws.step_decided.Goals as goal

pub returns : goal.returns
returns c = decisions.step_decided
