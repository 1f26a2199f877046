use Rattle.kernel_model.proofs.Readiness.{idle_valid}
use Rattle.kernel_model.proofs.Starts.{start_deadlines}
use Rattle.kernel_model.proofs.Waking.{end_deadlines, step_deadlines, wake_deadlines, wake_keeps_valid}
use Rattle.kernel_model.proofs.wait_laws.waits_stay_valid.Goals as goal

pub returns-clause-wake : goal.returns-clause-wake
returns-clause-wake c = wake_keeps_valid

pub returns-clause-idle : goal.returns-clause-idle
returns-clause-idle c = idle_valid

pub returns-clause-deadlines : goal.returns-clause-deadlines
returns-clause-deadlines c = record {
  start = start_deadlines;
  step = step_deadlines;
  wake = wake_deadlines;
  end = end_deadlines;
  idle = λ constants S before. before;
}
