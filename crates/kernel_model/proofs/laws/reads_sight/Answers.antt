use Rattle.kernel_model.proofs.Outcomes.{outcome_reads, outside_reads}
use Rattle.kernel_model.proofs.laws.reads_sight.Goals as goal

pub returns-clause-outcome : goal.returns-clause-outcome
returns-clause-outcome c = outcome_reads

pub returns-clause-path : goal.returns-clause-path
returns-clause-path c = outside_reads
