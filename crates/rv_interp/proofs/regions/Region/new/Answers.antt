use Rattle.std.proofs.Common.{arith}
use Rattle.rv_interp.proofs.Slots.{all_empty}
use Rattle.rv_interp.proofs.regions.Region.new.Goals as goal

pub returns : goal.returns
returns c = λ m. all_empty m _ c.in_ok-slots.slots.items _ (omega arith) (c.in_ok-slots.ensures.items_if_clones_equal (λ y e. e))
