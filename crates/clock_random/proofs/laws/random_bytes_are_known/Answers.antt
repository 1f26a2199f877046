use Rattle.clock_random.proofs.KnownAnswers as lemmas
use Rattle.clock_random.proofs.laws.random_bytes_are_known.Goals as goal

pub returns-clause-first_block : goal.returns-clause-first_block
returns-clause-first_block c = lemmas.first_block

pub returns-clause-second_block : goal.returns-clause-second_block
returns-clause-second_block c = lemmas.second_block

pub returns-clause-other_stream : goal.returns-clause-other_stream
returns-clause-other_stream c = lemmas.other_stream
