use Rattle.kernel_model.proofs.Refusals.{first_lack_is_named, denial_is_of_first_lack, notcapable_is_denied, outside_is_denied}
use Rattle.kernel_model.proofs.laws.refusal_names_lack.Goals as goal

pub returns-clause-named : goal.returns-clause-named
returns-clause-named c = first_lack_is_named

pub returns-clause-only : goal.returns-clause-only
returns-clause-only c = denial_is_of_first_lack

pub returns-clause-denied : goal.returns-clause-denied
returns-clause-denied c = notcapable_is_denied

pub returns-clause-outside : goal.returns-clause-outside
returns-clause-outside c = outside_is_denied
