use Rattle.file_errors.proofs.NameMoves as laws
use Rattle.file_errors.proofs.laws.name_errors_are_listed.Goals as goal

pub returns : goal.returns
returns c = laws.name_errors_are_listed
