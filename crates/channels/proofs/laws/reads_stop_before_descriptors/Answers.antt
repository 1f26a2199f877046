use Rattle.channels.proofs.Deeds as lemmas
use Rattle.channels.proofs.laws.reads_stop_before_descriptors.Goals as goal

pub returns-clause-stops : goal.returns-clause-stops
returns-clause-stops c = lemmas.stops_before_carried

pub returns-clause-goes_on : goal.returns-clause-goes_on
returns-clause-goes_on c = lemmas.takes_all_plain
