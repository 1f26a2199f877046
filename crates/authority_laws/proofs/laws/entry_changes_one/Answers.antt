use Rattle.authority_laws.proofs.Histories as histories
use Rattle.authority_laws.proofs.laws.entry_changes_one.Goals as goal

pub returns : goal.returns
returns c = histories.entry_changes_one
