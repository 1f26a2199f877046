use Rattle.kernel_model.proofs.Reaches as reaches
use Rattle.kernel_model.proofs.laws.sight_is_reached.Goals as goal

pub returns-clause-sees : goal.returns-clause-sees
returns-clause-sees c = reaches.sight_is_reached

pub returns-clause-touches : goal.returns-clause-touches
returns-clause-touches c = reaches.touch_is_seen
