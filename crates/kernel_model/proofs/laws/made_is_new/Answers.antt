use Rattle.kernel_model.proofs.Reaches as reaches
use Rattle.kernel_model.proofs.laws.made_is_new.Goals as goal

pub returns : goal.returns
returns c = reaches.made_is_new
