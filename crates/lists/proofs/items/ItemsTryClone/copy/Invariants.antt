use Rattle.std.proofs.Common.{◌≡◌, take}
use Rattle.lists.proofs.items.ItemsTryClone.copy.Given as goal

-- what is made so far is equal to the values that were gone over
abbrev pub invariant-loop-item : goal.invariant-loop-item
invariant-loop-item g l = l.made.items ≡ take l.item-index l.item-items
