use Rattle.file_errors.proofs.MemoryErrors as laws
use Rattle.file_errors.proofs.laws.memory_errors_are_listed.Goals as goal

pub returns : goal.returns
returns c = laws.memory_errors_are_listed
