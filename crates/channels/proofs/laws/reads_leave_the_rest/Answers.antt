use Rattle.channels.proofs.Deeds as lemmas
use Rattle.channels.proofs.laws.reads_leave_the_rest.Goals as goal

pub returns : goal.returns
returns c = lemmas.reads_leave_rest
