use Rattle.kernel_model.proofs.Refusals as refusals
use Rattle.kernel_model.proofs.laws.error_keeps.Goals as goal

pub returns : goal.returns
returns c = refusals.error_keeps
