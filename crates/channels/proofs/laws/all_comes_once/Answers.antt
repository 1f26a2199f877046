use Rattle.channels.proofs.Deeds as lemmas
use Rattle.channels.proofs.laws.all_comes_once.Goals as goal

pub returns-clause-bytes : goal.returns-clause-bytes
returns-clause-bytes c = lemmas.bytes_come_once

pub returns-clause-descriptors : goal.returns-clause-descriptors
returns-clause-descriptors c = lemmas.carried_come_once
