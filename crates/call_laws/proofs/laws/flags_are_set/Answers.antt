use Rattle.call_laws.proofs.FilesTold as files
use Rattle.call_laws.proofs.laws.flags_are_set.Goals as goal

pub returns : goal.returns
returns c = files.flags_are_set
