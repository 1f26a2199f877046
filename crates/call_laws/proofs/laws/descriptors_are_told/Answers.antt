use Rattle.call_laws.proofs.Told.{objects_are_told, stat_tells}
use Rattle.call_laws.proofs.laws.descriptors_are_told.Goals as goal

pub returns-clause-stat : goal.returns-clause-stat
returns-clause-stat c = stat_tells

pub returns-clause-objects : goal.returns-clause-objects
returns-clause-objects c = objects_are_told
