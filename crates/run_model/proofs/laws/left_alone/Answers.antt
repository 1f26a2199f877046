use Rattle.run_model.proofs.Own as own
use Rattle.run_model.proofs.laws.left_alone.Goals as goal

pub returns : goal.returns
returns c = own.left_alone
