use Rattle.kernel_model.proofs.ChannelLaws.{reads_answer, reads_lose_nothing, reads_stop_at_sends, reads_wait, receives_answer}
use Rattle.kernel_model.proofs.channel_laws.reads_take_sends.Goals as goal

pub returns-clause-all : goal.returns-clause-all
returns-clause-all c = reads_lose_nothing

pub returns-clause-stop : goal.returns-clause-stop
returns-clause-stop c = reads_stop_at_sends

pub returns-clause-wait : goal.returns-clause-wait
returns-clause-wait c = reads_wait

pub returns-clause-answers : goal.returns-clause-answers
returns-clause-answers c = reads_answer

pub returns-clause-receives : goal.returns-clause-receives
returns-clause-receives c = receives_answer
