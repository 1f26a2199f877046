use Rattle.call_laws.proofs.Arguments.{all_are_in_order}
use Rattle.call_laws.proofs.laws.arguments_are_in_order.Goals as goal

pub returns : goal.returns
returns c = all_are_in_order
