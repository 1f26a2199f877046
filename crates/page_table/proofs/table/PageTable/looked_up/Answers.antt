use Rattle.std.proofs.Common.{◌≡◌, ◌<◌, ◌++◌, List, length, Some, None, sym, ap, subst, ◌∙◌}
use Rattle.std.specs.FinMap.{get}
use Rattle.std.specs.Option.{option_copied}
use Rattle.page_table.specs.declared.slots.Slot.{Slot}
use Rattle.page_table.specs.Page.{Pages}
use Rattle.page_table.specs.Table.{slot_at}
use Rattle.page_table.proofs.Tables.{content_at, content_none}
use Rattle.page_table.proofs.table.PageTable.looked_up.Goals as goal

pub page_at-requires : goal.page_at-requires
page_at-requires c =
    let here : get c.self.inside.index c.args.number ≡ Some c.in-Some.place.now = sym c.get.ensures.value ∙ ap option_copied c.in-Some.is in
    let all : c.as_slice.result.now ++ c.deref.result.now ≡ c.self.inside.shared ++ c.self.inside.slots.items =
    ap (λ (xs : List Slot). xs ++ c.deref.result.now) c.as_slice.ensures ∙ ap (λ (xs : List Slot). c.self.inside.shared ++ xs) c.deref.ensures.value in
    subst (λ (xs : List Slot). c.in-Some.place.now < length xs) (sym all) (c.self.invariant.indexed.placed c.args.number c.in-Some.place.now here).0

pub returns-in-Some : goal.returns-in-Some
returns-in-Some c =
    let here : get c.self.inside.index c.args.number ≡ Some c.in-Some.place.now = sym c.get.ensures.value ∙ ap option_copied c.in-Some.is in
    let all : c.as_slice.result.now ++ c.deref.result.now ≡ c.self.inside.shared ++ c.self.inside.slots.items =
    ap (λ (xs : List Slot). xs ++ c.deref.result.now) c.as_slice.ensures ∙ ap (λ (xs : List Slot). c.self.inside.shared ++ xs) c.deref.ensures.value in
    ap Some (c.page_at.ensures ∙ ap (λ (xs : List Slot). (slot_at xs c.in-Some.place.now).page) all)
    ∙ sym (content_at c.self.inside.index (c.self.inside.shared ++ c.self.inside.slots.items) c.args.number c.in-Some.place.now here)
    ∙ ap (λ (m : Pages). get m c.args.number) c.self.view_is

pub returns-in-None : goal.returns-in-None
returns-in-None c =
    let absent : get c.self.inside.index c.args.number ≡ None = sym c.get.ensures.value ∙ ap option_copied c.in-None.is in
    sym (content_none c.self.inside.index (c.self.inside.shared ++ c.self.inside.slots.items) c.args.number absent)
    ∙ ap (λ (m : Pages). get m c.args.number) c.self.view_is
