use Rattle.kernel_model.proofs.PollLaws.{poll_has_soonest, poll_ready_where}
use Rattle.kernel_model.proofs.poll_laws.polls_await_soonest.Goals as goal

pub returns-clause-ready : goal.returns-clause-ready
returns-clause-ready c = poll_ready_where

pub returns-clause-deadline : goal.returns-clause-deadline
returns-clause-deadline c = poll_has_soonest
