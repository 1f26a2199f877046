use Rattle.path_lookup.proofs.Starts as lemmas
use Rattle.path_lookup.proofs.laws.dot_is_nothing.Goals as goal

pub returns : goal.returns
returns c = lemmas.dot_is_nothing
