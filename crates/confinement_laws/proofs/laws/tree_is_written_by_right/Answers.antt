use Rattle.confinement_laws.proofs.NamingCalls.{names_are_touched}
use Rattle.confinement_laws.proofs.WritingCalls.{tree_is_written}
use Rattle.confinement_laws.proofs.laws.tree_is_written_by_right.Goals as goal

pub returns-clause-touched : goal.returns-clause-touched
returns-clause-touched c = tree_is_written

pub returns-clause-names : goal.returns-clause-names
returns-clause-names c = names_are_touched
