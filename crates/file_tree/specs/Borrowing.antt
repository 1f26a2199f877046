-- What the slots end as after one of them was borrowed.
use Rattle.std.specs.Prelude.{ℕ}
use Rattle.std.specs.Borrow.{Lends, MutBor, Fml}
use Rattle.std.specs.Ordering.{nat_cmp}
use Rattle.std.specs.FinMap.{FinMap, insert}
use Rattle.file_tree.specs.declared.slot.Slot.{Slot}
use Rattle.file_tree.specs.contracts.slot.Slot as slot
use Rattle.file_tree.specs.contracts.slots.Slots.{the_row}

-- the slots behind m end with the last value behind r at the number n
abbrev pub LendsSlot : MutBor (FinMap nat_cmp Slot) → ℕ → MutBor Slot → Fml
LendsSlot m n r = Lends the_row slot.the_row m r (λ w. insert m.now n w)
