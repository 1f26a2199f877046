use Rattle.kernel_model.proofs.Carried.{end_carries_nothing, waiting_was_held}
use Rattle.kernel_model.proofs.laws.waiting_was_held.Goals as goal

pub returns-clause-step : goal.returns-clause-step
returns-clause-step c = waiting_was_held

pub returns-clause-end : goal.returns-clause-end
returns-clause-end c = end_carries_nothing
