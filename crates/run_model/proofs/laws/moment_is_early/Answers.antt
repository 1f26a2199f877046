use Rattle.run_model.proofs.Bounds.{early, short}
use Rattle.run_model.proofs.laws.moment_is_early.Goals as goal

pub returns-clause-early : goal.returns-clause-early
returns-clause-early c = early

pub returns-clause-short : goal.returns-clause-short
returns-clause-short c = short
