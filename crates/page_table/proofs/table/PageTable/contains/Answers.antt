use Rattle.std.proofs.Common.{◌++◌, ap, ◌∙◌}
use Rattle.std.specs.FinMap.{contains_key}
use Rattle.page_table.specs.Page.{Pages}
use Rattle.page_table.proofs.Tables.{contains_content}
use Rattle.page_table.proofs.table.PageTable.contains.Goals as goal

pub returns : goal.returns
returns c =
    c.contains.ensures ∙ contains_content c.self.inside.index (c.self.inside.shared ++ c.self.inside.slots.items) c.args.number
    ∙ ap (λ (m : Pages). contains_key m c.args.number) c.self.view_is
