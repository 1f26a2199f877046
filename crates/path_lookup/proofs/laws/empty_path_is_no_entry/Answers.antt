use Rattle.path_lookup.proofs.Starts as lemmas
use Rattle.path_lookup.proofs.laws.empty_path_is_no_entry.Goals as goal

pub returns : goal.returns
returns c = lemmas.empty_is_no_entry
