use Rattle.run_model.proofs.Potentials.{turns_are_bounded, potential_falls, history_is_paid}
use Rattle.run_model.proofs.laws.history_is_short.Goals as goal

pub returns-clause-turns : goal.returns-clause-turns
returns-clause-turns c = turns_are_bounded

pub returns-clause-takes : goal.returns-clause-takes
returns-clause-takes c = potential_falls

pub returns-clause-short : goal.returns-clause-short
returns-clause-short c = history_is_paid
