use Rattle.kernel_model.proofs.Readiness.{due_is_ready, ready_stays}
use Rattle.kernel_model.proofs.WakeSights.{ready_decided}
use Rattle.kernel_model.proofs.wait_laws.ready_stays_ready.Goals as goal

pub returns-clause-stays : goal.returns-clause-stays
returns-clause-stays c = ready_stays

pub returns-clause-due : goal.returns-clause-due
returns-clause-due c = due_is_ready

pub returns-clause-decided : goal.returns-clause-decided
returns-clause-decided c = ready_decided
