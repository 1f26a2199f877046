use Rattle.kernel_model.proofs.Waking.{resumed_runs, wake_error_keeps, wake_keeps, wake_moves_none, wake_moves_only, wake_others_stay}
use Rattle.kernel_model.proofs.WakeSights.{resumed_sees_same}
use Rattle.kernel_model.proofs.wait_laws.wakes_move_only.Goals as goal

pub returns-clause-resumed : goal.returns-clause-resumed
returns-clause-resumed c = resumed_runs

pub returns-clause-moves : goal.returns-clause-moves
returns-clause-moves c = wake_moves_only

pub returns-clause-keeps : goal.returns-clause-keeps
returns-clause-keeps c = wake_keeps

pub returns-clause-none : goal.returns-clause-none
returns-clause-none c = wake_moves_none

pub returns-clause-error : goal.returns-clause-error
returns-clause-error c = wake_error_keeps

pub returns-clause-others : goal.returns-clause-others
returns-clause-others c = wake_others_stay

pub returns-clause-sees : goal.returns-clause-sees
returns-clause-sees c = resumed_sees_same
