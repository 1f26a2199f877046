use Rattle.readiness_laws.proofs.Others as others
use Rattle.readiness_laws.proofs.laws.others_look_elsewhere.Goals as goal

pub returns : goal.returns
returns c = others.others_look_elsewhere
