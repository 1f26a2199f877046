use Rattle.run_model.proofs.Own as own
use Rattle.run_model.proofs.laws.others_stay.Goals as goal

pub returns : goal.returns
returns c = own.others_stay
