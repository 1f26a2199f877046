use Rattle.std.proofs.Common.{◌++◌, nat_le, ap, ◌∙◌}
use Rattle.maps.specs.Maps.{least_key}
use Rattle.page_table.specs.Page.{Pages}
use Rattle.page_table.proofs.Tables.{first_content}
use Rattle.page_table.proofs.table.PageTable.first_from.Goals as goal

pub returns : goal.returns
returns c =
    c.first_from.ensures ∙ first_content c.self.inside.index (c.self.inside.shared ++ c.self.inside.slots.items) c.args.number
    ∙ ap (λ (m : Pages). least_key (λ q _. nat_le c.args.number q) m) c.self.view_is
