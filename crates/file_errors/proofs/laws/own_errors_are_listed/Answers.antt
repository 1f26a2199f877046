use Rattle.file_errors.proofs.OwnErrors as laws
use Rattle.file_errors.proofs.laws.own_errors_are_listed.Goals as goal

pub returns : goal.returns
returns c = laws.own_errors_are_listed
