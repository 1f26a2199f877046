use Rattle.std.proofs.Common.{◌++◌, ap, ◌∙◌}
use Rattle.std.specs.FinMap.{get}
use Rattle.page_table.specs.Page.{Pages}
use Rattle.page_table.proofs.Tables.{not_indexed}
use Rattle.page_table.proofs.table.PageTable.insert.Goals as goal

pub insert_slot-requires-clause-absent : goal.insert_slot-requires-clause-absent
insert_slot-requires-clause-absent c =
    not_indexed c.self.inside.index (c.self.inside.shared ++ c.self.inside.slots.items) c.args.number
    (ap (λ (m : Pages). get m c.args.number) (c.self.view_is ∙ c.widen.ensures) ∙ c.requires)
