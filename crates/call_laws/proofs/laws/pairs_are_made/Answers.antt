use Rattle.call_laws.proofs.NewPairs.{pairs_are_joined, pipes_are_joined}
use Rattle.call_laws.proofs.laws.pairs_are_made.Goals as goal

pub returns-clause-pipe : goal.returns-clause-pipe
returns-clause-pipe c = pipes_are_joined

pub returns-clause-pair : goal.returns-clause-pair
returns-clause-pair c = pairs_are_joined
