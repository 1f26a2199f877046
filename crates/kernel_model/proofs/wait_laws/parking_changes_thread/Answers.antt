use Rattle.kernel_model.proofs.Readiness.{parking_is_allowed, parking_keeps}
use Rattle.kernel_model.proofs.wait_laws.parking_changes_thread.Goals as goal

pub returns-clause-allowed : goal.returns-clause-allowed
returns-clause-allowed c = parking_is_allowed

pub returns-clause-keeps : goal.returns-clause-keeps
returns-clause-keeps c = parking_keeps
