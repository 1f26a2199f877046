use Rattle.kernel_model.proofs.Refusals as refusals
use Rattle.kernel_model.proofs.laws.errors_are_exact.Goals as goal

pub returns : goal.returns
returns c = refusals.errors_are_exact
