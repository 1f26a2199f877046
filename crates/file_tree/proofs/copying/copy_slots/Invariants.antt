use Rattle.std.proofs.Common.{◌-◌, ◌^◌}
use Rattle.file_tree.proofs.Copies.{CopiesUpTo, passed}
use Rattle.file_tree.proofs.copying.copy_slots.Given as goal

-- the slots up to the last are as in the other map
abbrev pub invariant-loop-id : goal.invariant-loop-id
invariant-loop-id l = CopiesUpTo l.last l.slots l.made

abbrev pub decreases-loop-id : goal.decreases-loop-id
decreases-loop-id l = 2 ^ 64 - passed l.last
