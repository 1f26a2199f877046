use Rattle.confinement_laws.proofs.ReachLaws as reach
use Rattle.confinement_laws.proofs.laws.nothing_else_is_in_reach.Goals as goal

pub returns : goal.returns
returns c = reach.nothing_else_is_in_reach
