use Rattle.clock_random.proofs.Keystream as lemmas
use Rattle.clock_random.proofs.laws.random_bytes_go_on.Goals as goal

pub returns-clause-whole : goal.returns-clause-whole
returns-clause-whole c = lemmas.is_whole

pub returns-clause-alike : goal.returns-clause-alike
returns-clause-alike c = lemmas.begins_alike

pub returns-clause-goes_on : goal.returns-clause-goes_on
returns-clause-goes_on c = lemmas.goes_on
