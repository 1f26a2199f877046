use Rattle.run_model.proofs.Entries as entries
use Rattle.run_model.proofs.laws.entry_is_one.Goals as goal

pub returns : goal.returns
returns c = entries.entry_is_one
