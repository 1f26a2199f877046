use Rattle.std.proofs.Common.{◌∙◌, arith}
use Rattle.page_table.proofs.SharedTables.{table_copied, table_shared}
use Rattle.page_table.proofs.table.PageTable.fork.Goals as goal

pub invariant_of-self : goal.invariant_of-self
invariant_of-self c =
    table_shared c.self.inside.index c.self.inside.shared c.self.inside.slots.items c.share_slots.new.shared c.share_slots.new.slots.items _ _ c.self.invariant
    c.share_slots.ensures.all c.share_slots.ensures.more c.share_slots.ensures.few (omega (arith, c.share_slots.ensures.room, c.len-count.ensures.len))

pub invariant_of-self-in_err-slots : goal.invariant_of-self-in_err-slots
invariant_of-self-in_err-slots c =
    table_shared c.self.inside.index c.self.inside.shared c.self.inside.slots.items c.share_slots.new.shared c.share_slots.new.slots.items _ _ c.self.invariant
    c.share_slots.ensures.all c.share_slots.ensures.more c.share_slots.ensures.few (omega (arith, c.share_slots.ensures.room, c.len-count.ensures.len))

pub invariant_of-self-in_err-share : goal.invariant_of-self-in_err-share
invariant_of-self-in_err-share c =
    table_shared c.self.inside.index c.self.inside.shared c.self.inside.slots.items c.share_slots.new.shared c.share_slots.new.slots.items _ _ c.self.invariant
    c.share_slots.ensures.all c.share_slots.ensures.more c.share_slots.ensures.few (omega (arith, c.share_slots.ensures.room, c.len-count.ensures.len))

pub invariant_of-self-2 : goal.invariant_of-self-2
invariant_of-self-2 c =
    table_shared c.self.inside.index c.self.inside.shared c.self.inside.slots.items c.share_slots.new.shared c.share_slots.new.slots.items _ _ c.self.invariant
    c.share_slots.ensures.all c.share_slots.ensures.more c.share_slots.ensures.few (omega (arith, c.share_slots.ensures.room, c.len-count.ensures.len))

pub invariant_of-result : goal.invariant_of-result
invariant_of-result c =
    let whole =
    table_shared c.self.inside.index c.self.inside.shared c.self.inside.slots.items c.share_slots.new.shared c.share_slots.new.slots.items _ c.len-count.result
    c.self.invariant c.share_slots.ensures.all c.share_slots.ensures.more c.share_slots.ensures.few (omega (arith, c.len-count.ensures.len)) in
    table_copied c.self.inside.index _ c.share_slots.new.shared c.in_ok-share.field-0 c.share_slots.new.slots.items c.in_ok-slots.slots.items _ _ whole
    (c.index.view_is ∙ c.in_ok-index.ensures) c.in_ok-share.ensures (c.in_ok-slots.ensures.items ∙ c.deref.ensures.value)
    (omega (arith, c.in_ok-slots.ensures.room, c.len-count.ensures.len))
