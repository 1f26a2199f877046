use Rattle.path_lookup.proofs.Related as lemmas
use Rattle.path_lookup.proofs.laws.walk_is_the_relation.Goals as goal

pub returns : goal.returns
returns c = lemmas.walk_is_the_relation
