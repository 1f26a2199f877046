use Rattle.call_laws.proofs.FilesTold as files
use Rattle.call_laws.proofs.laws.files_are_told.Goals as goal

pub returns : goal.returns
returns c = files.files_are_told
