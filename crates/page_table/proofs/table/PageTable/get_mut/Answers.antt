use Rattle.std.proofs.Common.{◌≡◌, ◌+◌, ◌<◌, ◌++◌, length, List, Some, IsSome, refl, sym, ap, subst, ◌∙◌, arith}
use Rattle.std.specs.FinMap.{get, insert}
use Rattle.std.specs.Vec.{vec_capacity}
use Rattle.page_table.specs.declared.slots.Slot.{Slot}
use Rattle.page_table.specs.Page.{Pages}
use Rattle.page_table.specs.Table.{IsTable, content, slot_at}
use Rattle.page_table.proofs.Tables.{at_own, content_at, has_own_slot, length_all, own_content_set, own_table_set, read_is}
use Rattle.page_table.proofs.table.PageTable.get_mut.Goals as goal

pub own_slot-place-requires-clause-there : goal.own_slot-place-requires-clause-there
own_slot-place-requires-clause-there c =
    has_own_slot c.self.inside.index (c.self.inside.shared ++ c.self.inside.slots.items) c.args.number
    (subst (λ (m : Pages). IsSome (get m c.args.number)) (sym c.self.view_is) c.requires)

pub index_mut-slot-requires : goal.index_mut-slot-requires
index_mut-slot-requires c =
    let slots = c.own_slot-place.new.slots.items in
    let all = length_all c.as_slice.result.now slots in
    let lt = (c.own_slot-place.ensures.table.indexed.placed c.args.number (length c.as_slice.result.now + c.own_slot-place.result) c.own_slot-place.ensures.place).0 in
    omega (arith, lt, all, c.own_slot-place.new.slots.ok.0)

pub invariant_of-self-lent : goal.invariant_of-self-lent
invariant_of-self-lent c = λ w.
    let place = c.own_slot-place.result in
    let slots = c.own_slot-place.new.slots.items in
    let h : IsTable c.own_slot-place.new.index c.self.inside.shared slots (vec_capacity c.own_slot-place.new.slots) =
    subst (λ (xs : List Slot). IsTable c.own_slot-place.new.index xs slots (vec_capacity c.own_slot-place.new.slots)) c.as_slice.ensures
    c.own_slot-place.ensures.table in
    let here : get c.own_slot-place.new.index c.args.number ≡ Some (length c.self.inside.shared + place) =
    c.own_slot-place.ensures.place ∙ ap (λ (xs : List Slot). Some (length xs + place)) c.as_slice.ensures in
    let all = length_all c.self.inside.shared slots in
    let at = h.indexed.placed c.args.number (length c.self.inside.shared + place) here in
    let within : place < length slots = let lt = at.0 in omega (arith, lt, all) in
    let read : c.index_mut-slot.result.now ≡ slot_at slots place = read_is slots place c.index_mut-slot.result.now within c.index_mut-slot.ensures.value in
    let number : c.index_mut-slot.result.now.number ≡ c.args.number =
    ap (λ (s : Slot). s.number) (read ∙ sym (at_own c.self.inside.shared slots place)) ∙ at.1 in
    own_table_set c.own_slot-place.new.index c.self.inside.shared slots _ c.args.number place
    (record { number = c.index_mut-slot.result.now.number; page = w }) h here number

pub returns : goal.returns
returns c =
    let place = c.own_slot-place.result in
    let slots = c.own_slot-place.new.slots.items in
    let h : IsTable c.own_slot-place.new.index c.self.inside.shared slots (vec_capacity c.own_slot-place.new.slots) =
    subst (λ (xs : List Slot). IsTable c.own_slot-place.new.index xs slots (vec_capacity c.own_slot-place.new.slots)) c.as_slice.ensures
    c.own_slot-place.ensures.table in
    let here : get c.own_slot-place.new.index c.args.number ≡ Some (length c.self.inside.shared + place) =
    c.own_slot-place.ensures.place ∙ ap (λ (xs : List Slot). Some (length xs + place)) c.as_slice.ensures in
    let all = length_all c.self.inside.shared slots in
    let at = h.indexed.placed c.args.number (length c.self.inside.shared + place) here in
    let within : place < length slots = let lt = at.0 in omega (arith, lt, all) in
    let read : c.index_mut-slot.result.now ≡ slot_at slots place = read_is slots place c.index_mut-slot.result.now within c.index_mut-slot.ensures.value in
    let number : c.index_mut-slot.result.now.number ≡ c.args.number =
    ap (λ (s : Slot). s.number) (read ∙ sym (at_own c.self.inside.shared slots place)) ∙ at.1 in
    let kept : content c.own_slot-place.new.index (c.self.inside.shared ++ slots) ≡ c.args.self.now =
    subst
    (λ (xs : List Slot). content c.own_slot-place.new.index (xs ++ slots) ≡ content c.self.inside.index (xs ++ c.self.inside.slots.items)) c.as_slice.ensures
    c.own_slot-place.ensures.content
    ∙ c.self.view_is in (
      (
        refl,
        λ w. own_content_set c.own_slot-place.new.index c.self.inside.shared slots _ c.args.number place
            (record { number = c.index_mut-slot.result.now.number; page = w }) h here number
            ∙ ap (λ (m : Pages). insert m c.args.number w) kept,
      ),
      record {
        writes_back = tt;
        value =
            ap (λ (s : Slot). Some s.page) (read ∙ sym (at_own c.self.inside.shared slots place))
            ∙ sym (content_at c.own_slot-place.new.index (c.self.inside.shared ++ slots) c.args.number (length c.self.inside.shared + place) here)
            ∙ ap (λ (m : Pages). get m c.args.number) kept;
      },
    )
