use Rattle.kernel_model.proofs.Waking.{lock_wake_has_memory, ready_has_wake, wake_ends_wait}
use Rattle.kernel_model.proofs.wait_laws.wakes_end_waits.Goals as goal

pub returns-clause-there : goal.returns-clause-there
returns-clause-there c = ready_has_wake

pub returns-clause-ends : goal.returns-clause-ends
returns-clause-ends c = wake_ends_wait

pub returns-clause-memory : goal.returns-clause-memory
returns-clause-memory c = lock_wake_has_memory
