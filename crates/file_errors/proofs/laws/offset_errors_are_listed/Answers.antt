use Rattle.file_errors.proofs.OffsetErrors as laws
use Rattle.file_errors.proofs.laws.offset_errors_are_listed.Goals as goal

pub returns : goal.returns
returns c = laws.offset_errors_are_listed
