use Rattle.kernel_model.proofs.Steps.{step_moves_only, end_ends_only}
use Rattle.kernel_model.proofs.laws.steps_move_only.Goals as goal

pub returns-clause-step : goal.returns-clause-step
returns-clause-step c = step_moves_only

pub returns-clause-end : goal.returns-clause-end
returns-clause-end c = end_ends_only
