use Rattle.path_lookup.proofs.Starts as lemmas
use Rattle.path_lookup.proofs.laws.start_is_not_left.Goals as goal

pub returns : goal.returns
returns c = record { dots = lemmas.climbs_outside; more = lemmas.climbs_outside_at_once; slash = lemmas.slash_is_outside }
