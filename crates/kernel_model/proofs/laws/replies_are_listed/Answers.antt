use Rattle.kernel_model.proofs.Refusals as refusals
use Rattle.kernel_model.proofs.laws.replies_are_listed.Goals as goal

pub returns : goal.returns
returns c = refusals.replies_are_listed
