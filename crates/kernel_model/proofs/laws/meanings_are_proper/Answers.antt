use Rattle.kernel_model.proofs.Calls as calls
use Rattle.kernel_model.proofs.laws.meanings_are_proper.Goals as goal

pub returns : goal.returns
returns c = calls.proper
