use Rattle.kernel_model.proofs.Decisions as decisions
use Rattle.kernel_model.proofs.laws.sight_decides.Goals as goal

pub returns : goal.returns
returns c = decisions.sight_decides
