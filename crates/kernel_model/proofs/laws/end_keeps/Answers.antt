use Rattle.kernel_model.proofs.Touches as touches
use Rattle.kernel_model.proofs.laws.end_keeps.Goals as goal

pub returns : goal.returns
returns c = touches.end_keeps
