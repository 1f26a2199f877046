use Rattle.kernel_model.proofs.ChannelLaws.{sends_answer, sends_stand_last, writes_answer}
use Rattle.kernel_model.proofs.channel_laws.sends_stand_last.Goals as goal

pub returns-clause-last : goal.returns-clause-last
returns-clause-last c = sends_stand_last

pub returns-clause-writes : goal.returns-clause-writes
returns-clause-writes c = writes_answer

pub returns-clause-sends : goal.returns-clause-sends
returns-clause-sends c = sends_answer
