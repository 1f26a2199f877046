use Rattle.file_errors.proofs.FileErrors as laws
use Rattle.file_errors.proofs.laws.file_errors_are_listed.Goals as goal

pub returns : goal.returns
returns c = laws.file_errors_are_listed
