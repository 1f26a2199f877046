use Rattle.kernel_model.proofs.Steps as steps
use Rattle.kernel_model.proofs.laws.end_keeps_valid.Goals as goal

pub returns : goal.returns
returns c = steps.end_valid
