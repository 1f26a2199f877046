use Rattle.run_model.proofs.Confinements as confinements
use Rattle.run_model.proofs.laws.legal_is_confined.Goals as goal

pub returns : goal.returns
returns c = confinements.legal_is_confined
