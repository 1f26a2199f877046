use Rattle.process_errors.proofs.PollErrors as laws
use Rattle.process_errors.proofs.laws.polls_are_listed.Goals as goal

pub returns : goal.returns
returns c = laws.poll_is_listed
