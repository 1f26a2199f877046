use Rattle.kernel_model.proofs.Starts as starts
use Rattle.kernel_model.proofs.laws.start_is_valid.Goals as goal

pub returns : goal.returns
returns c = starts.start_valid
