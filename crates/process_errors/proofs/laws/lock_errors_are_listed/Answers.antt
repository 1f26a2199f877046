use Rattle.process_errors.proofs.LockErrors as laws
use Rattle.process_errors.proofs.laws.lock_errors_are_listed.Goals as goal

pub returns-clause-signal : goal.returns-clause-signal
returns-clause-signal c = laws.signal_is_listed

pub returns-clause-lock : goal.returns-clause-lock
returns-clause-lock c = laws.lock_poll_is_listed

pub returns-clause-condition : goal.returns-clause-condition
returns-clause-condition c = laws.condition_poll_is_listed
