use Rattle.guest_memory.proofs.Changes.{unmapped_is, mapped_is, protected_is, there_is, lowest_gap_is, no_gap_is}
use Rattle.guest_memory.proofs.laws.changes_are_functions.Goals as goal

pub returns-clause-unmapped : goal.returns-clause-unmapped
returns-clause-unmapped c = unmapped_is

pub returns-clause-mapped : goal.returns-clause-mapped
returns-clause-mapped c = mapped_is

pub returns-clause-protected : goal.returns-clause-protected
returns-clause-protected c = protected_is

pub returns-clause-there : goal.returns-clause-there
returns-clause-there c = there_is

pub returns-clause-gap : goal.returns-clause-gap
returns-clause-gap c = lowest_gap_is

pub returns-clause-no_gap : goal.returns-clause-no_gap
returns-clause-no_gap c = no_gap_is
