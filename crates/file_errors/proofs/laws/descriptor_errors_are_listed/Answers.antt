use Rattle.file_errors.proofs.DescriptorErrors as laws
use Rattle.file_errors.proofs.laws.descriptor_errors_are_listed.Goals as goal

pub returns : goal.returns
returns c = laws.descriptor_errors_are_listed
