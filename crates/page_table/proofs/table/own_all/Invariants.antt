use Rattle.std.proofs.Common.{◌≡◌, ◌++◌}
use Rattle.std.specs.Vec.{vec_capacity}
use Rattle.page_table.specs.Table.{IsTable, content}
use Rattle.page_table.proofs.table.own_all.Given as goal

abbrev pub invariant-loop-slot : goal.invariant-loop-slot
invariant-loop-slot l =
    IsTable l.index l.shared l.slots.items (vec_capacity l.slots)
    × (content l.index (l.shared ++ l.slots.items) ≡ content l.fn.index (l.shared ++ l.fn.slots.items))
