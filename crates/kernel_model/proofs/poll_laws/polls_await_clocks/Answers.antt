use Rattle.kernel_model.proofs.PollTimes.{poll_awaits_clock, poll_has_deadline, poll_is_ready}
use Rattle.kernel_model.proofs.poll_laws.polls_await_clocks.Goals as goal

pub returns-clause-answers : goal.returns-clause-answers
returns-clause-answers c = poll_awaits_clock

pub returns-clause-ready : goal.returns-clause-ready
returns-clause-ready c = poll_is_ready

pub returns-clause-deadline : goal.returns-clause-deadline
returns-clause-deadline c = poll_has_deadline
