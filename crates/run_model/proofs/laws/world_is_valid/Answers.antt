use Rattle.run_model.proofs.Worlds as worlds
use Rattle.run_model.proofs.laws.world_is_valid.Goals as goal

pub returns-clause-valid : goal.returns-clause-valid
returns-clause-valid c = worlds.world_is_valid

pub returns-clause-deadlines : goal.returns-clause-deadlines
returns-clause-deadlines c = worlds.world_has_deadlines
