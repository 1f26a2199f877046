use Rattle.file_tree.proofs.Keyed.{slots_empty, keyed_empty}
use Rattle.file_tree.proofs.slots.Slots.new.Goals as goal

pub invariant_of-result : goal.invariant_of-result
invariant_of-result c = keyed_empty c.new.result c.new-2.result c.new-2.ensures

pub returns : goal.returns
returns c = slots_empty c.new.result c.new-2.result c.new-2.ensures
