use Rattle.file_errors.proofs.PathErrors as laws
use Rattle.file_errors.proofs.laws.path_errors_are_listed.Goals as goal

pub returns : goal.returns
returns c = laws.path_errors_are_listed
