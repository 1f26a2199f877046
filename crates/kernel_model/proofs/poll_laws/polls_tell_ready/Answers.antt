use Rattle.kernel_model.proofs.PollEvents.{none_is_lost, none_is_more}
use Rattle.kernel_model.proofs.PollLaws.{poll_tells_ready, poll_waits}
use Rattle.kernel_model.proofs.poll_laws.polls_tell_ready.Goals as goal

pub returns-clause-tells : goal.returns-clause-tells
returns-clause-tells c = poll_tells_ready

pub returns-clause-waits : goal.returns-clause-waits
returns-clause-waits c = poll_waits

pub returns-clause-lost : goal.returns-clause-lost
returns-clause-lost c = none_is_lost

pub returns-clause-more : goal.returns-clause-more
returns-clause-more c = none_is_more
