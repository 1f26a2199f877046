use Rattle.run_model.proofs.Own as own
use Rattle.run_model.proofs.laws.made_later.Goals as goal

pub returns : goal.returns
returns c = own.made_later
