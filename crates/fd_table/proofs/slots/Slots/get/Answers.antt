use Rattle.std.proofs.Common.{rules, ◌<◌, length, sym, ap, ◌∙◌, arith}
use Rattle.std.specs.FinMap.{get}
use Rattle.fd_table.specs.Table.{Table}
use Rattle.fd_table.proofs.Filled.{filled_at, filled_past}
use Rattle.fd_table.proofs.slots.Slots.get.Goals as goal

pub returns-then-place-len : goal.returns-then-place-len
returns-then-place-len c = sym (filled_past c.self.inside.places.items c.args.fd (search (rules, arith))) ∙ ap (λ (m : Table). get m c.args.fd) c.self.view_is

pub returns : goal.returns
returns c =
    let items = c.self.inside.places.items in
    let within : c.args.fd < length items = search (rules, arith) in
    c.as_ref.ensures.value ∙ filled_at items c.args.fd within _ c.index.ensures ∙ ap (λ (m : Table). get m c.args.fd) c.self.view_is
