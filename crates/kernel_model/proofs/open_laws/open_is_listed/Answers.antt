use Rattle.kernel_model.proofs.OpenConditions as laws
use Rattle.kernel_model.proofs.open_laws.open_is_listed.Goals as goal

pub returns : goal.returns
returns c = laws.open_is_listed
