use Rattle.channels.proofs.Deeds as lemmas
use Rattle.channels.proofs.laws.sends_are_counted.Goals as goal

pub returns-clause-reads : goal.returns-clause-reads
returns-clause-reads c = lemmas.reads_keep_count

pub returns-clause-shut : goal.returns-clause-shut
returns-clause-shut c = lemmas.shut_keeps_count

pub returns-clause-sends : goal.returns-clause-sends
returns-clause-sends c = lemmas.sends_add_one
