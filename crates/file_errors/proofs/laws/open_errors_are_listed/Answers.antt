use Rattle.file_errors.proofs.OpenErrors as laws
use Rattle.file_errors.proofs.laws.open_errors_are_listed.Goals as goal

pub returns : goal.returns
returns c = laws.open_errors_are_listed
