use Rattle.run_model.proofs.Worlds as worlds
use Rattle.run_model.proofs.laws.clock_counts.Goals as goal

pub returns-clause-each : goal.returns-clause-each
returns-clause-each c = worlds.apply_clock

pub returns-clause-bounds : goal.returns-clause-bounds
returns-clause-bounds c = worlds.clock_counts

pub returns-clause-exact : goal.returns-clause-exact
returns-clause-exact c = worlds.clock_is_exact
