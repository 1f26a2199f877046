use Rattle.channels.proofs.Deeds as lemmas
use Rattle.channels.proofs.laws.channels_stay_within.Goals as goal

pub returns-clause-new : goal.returns-clause-new
returns-clause-new c = lemmas.new_is_channel

pub returns-clause-stays : goal.returns-clause-stays
returns-clause-stays c = lemmas.stays_channel

pub returns-clause-shut : goal.returns-clause-shut
returns-clause-shut c = lemmas.shut_is_channel
