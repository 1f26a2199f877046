use Rattle.kernel_model.proofs.Refusals.{no_memory_is_exact, absent_is_badf, lack_is_denied, leaving_is_denied}
use Rattle.kernel_model.proofs.laws.refusals_come_first.Goals as goal

pub returns-clause-exact : goal.returns-clause-exact
returns-clause-exact c = no_memory_is_exact

pub returns-clause-absent : goal.returns-clause-absent
returns-clause-absent c = absent_is_badf

pub returns-clause-denied : goal.returns-clause-denied
returns-clause-denied c = lack_is_denied

pub returns-clause-outside : goal.returns-clause-outside
returns-clause-outside c = leaving_is_denied
