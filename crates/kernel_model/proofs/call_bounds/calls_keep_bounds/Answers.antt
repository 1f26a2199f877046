use Rattle.kernel_model.proofs.CallBounds as laws
use Rattle.kernel_model.proofs.Found as found
use Rattle.kernel_model.proofs.call_bounds.calls_keep_bounds.Goals as goal

pub returns-clause-alone : goal.returns-clause-alone
returns-clause-alone c = laws.names_alone

pub returns-clause-readers : goal.returns-clause-readers
returns-clause-readers c = laws.readers_keep_tree

pub returns-clause-memory : goal.returns-clause-memory
returns-clause-memory c = laws.never_lack

pub returns-clause-badf : goal.returns-clause-badf
returns-clause-badf c = found.badf_is_absent
