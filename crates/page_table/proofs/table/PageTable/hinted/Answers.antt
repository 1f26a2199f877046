use Rattle.std.proofs.Common.{◌≡◌, ◌<◌, length, Some, sym, ap, ◌∙◌, arith}
use Rattle.std.specs.FinMap.{get}
use Rattle.page_table.specs.declared.slots.Slot.{Slot}
use Rattle.page_table.specs.Page.{Pages}
use Rattle.page_table.specs.Table.{slot_at}
use Rattle.page_table.proofs.Tables.{by_own_hint, read_is}
use Rattle.page_table.proofs.table.PageTable.hinted.Goals as goal

pub returns-then-slot-number : goal.returns-then-slot-number
returns-then-slot-number c =
    let index = c.self.inside.index in
    let slots = c.self.inside.slots.items in
    let place = c.in-Some.place in
    let within : place < length slots = omega (arith, c.if-place-len.false, c.len.ensures, c.self.inside.slots.ok.0) in
    let read : c.index-slot.result.now ≡ slot_at slots place = read_is slots place c.index-slot.result.now within c.index-slot.ensures in
    ap (λ (m : Pages). get m c.args.number) (sym c.self.view_is)
    ∙ by_own_hint index c.self.inside.shared slots c.args.number place c.self.invariant.indexed within (ap (λ (s : Slot). s.number) (sym read) ∙ c.if-slot-number.true)
    ∙ ap (λ (s : Slot). Some s.page) (sym read)
