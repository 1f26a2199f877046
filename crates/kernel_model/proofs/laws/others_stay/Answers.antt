use Rattle.kernel_model.proofs.Touches as touches
use Rattle.kernel_model.proofs.laws.others_stay.Goals as goal

pub returns : goal.returns
returns c = touches.others_stay
