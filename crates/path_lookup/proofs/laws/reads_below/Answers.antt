use Rattle.path_lookup.proofs.Agreeing as lemmas
use Rattle.path_lookup.proofs.laws.reads_below.Goals as goal

pub returns : goal.returns
returns c = lemmas.reads_below
