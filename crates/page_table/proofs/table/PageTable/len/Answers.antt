use Rattle.std.proofs.Common.{◌++◌, ap, ◌∙◌}
use Rattle.std.specs.FinMap.{len}
use Rattle.page_table.specs.Page.{Pages}
use Rattle.page_table.proofs.Tables.{len_content}
use Rattle.page_table.proofs.table.PageTable.len.Goals as goal

pub returns : goal.returns
returns c = c.len.ensures.len ∙ len_content c.self.inside.index (c.self.inside.shared ++ c.self.inside.slots.items) ∙ ap (λ (m : Pages). len m) c.self.view_is
