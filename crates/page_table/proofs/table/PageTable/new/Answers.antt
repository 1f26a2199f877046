use Rattle.std.proofs.Common.{◌++◌, List, ap, ◌∙◌}
use Rattle.page_table.specs.declared.slots.Slot.{Slot}
use Rattle.page_table.proofs.Tables.{new_content, new_table}
use Rattle.page_table.proofs.table.PageTable.new.Goals as goal

pub invariant_of-result : goal.invariant_of-result
invariant_of-result c = new_table c.new.result c.none.result c.new-2.result.items _ c.new.ensures c.none.ensures c.new-2.ensures.items

pub returns : goal.returns
returns c = new_content c.new.result (c.none.result ++ c.new-2.result.items) c.new.ensures
    (ap (λ (xs : List Slot). xs ++ c.new-2.result.items) c.none.ensures ∙ c.new-2.ensures.items)
