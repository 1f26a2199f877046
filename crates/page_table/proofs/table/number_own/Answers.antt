use Rattle.std.proofs.Common.{◌≡◌, length, IsSome, sym, ap, subst, ◌∙◌, arith}
use Rattle.std.specs.FinMap.{get, insert}
use Rattle.page_table.specs.declared.slots.Slot.{Slot}
use Rattle.page_table.specs.Table.{slot_at}
use Rattle.page_table.proofs.Tables.{read_is}
use Rattle.page_table.proofs.Lowered.{IsLowered, lowered_all, lowered_more, lowered_there}
use Rattle.page_table.proofs.table.number_own.Goals as goal

pub replace-requires : goal.replace-requires
replace-requires c =
    let slots = c.args.slots.now in
    let read : c.index-slots-place.result ≡ slot_at slots c.loop-place.place =
    read_is slots c.loop-place.place c.index-slots-place.result c.loop-place-test.true c.index-slots-place.is in
    subst (λ (s : Slot). IsSome (get c.loop-place.index s.number)) (sym read ∙ c.index-slots-place.is)
    (lowered_there c.args.index.now c.loop-place.index c.args.shared.now slots c.loop-place.place c.requires c.loop-place-test.true c.loop-place.invariant)

pub loop-place-preserved : goal.loop-place-preserved
loop-place-preserved c =
    let slots = c.args.slots.now in
    let read : c.index-slots-place.result ≡ slot_at slots c.loop-place.place =
    read_is slots c.loop-place.place c.index-slots-place.result c.loop-place-test.true c.index-slots-place.is in
    lowered_more c.args.index.now c.loop-place.index c.replace.new.self c.args.shared.now slots c.loop-place.place c.requires c.loop-place-test.true
    c.loop-place.invariant
    (c.replace.ensures.new ∙ ap (λ (s : Slot). insert c.loop-place.index s.number c.loop-place.place) (sym c.index-slots-place.is ∙ read))

pub returns-clause-indexed : goal.returns-clause-indexed
returns-clause-indexed c = λ _.
    let at : c.loop-place.place ≡ length c.args.slots.now = omega (arith, c.loop-place-test.false, c.loop-place.auto.place-end) in
    (lowered_all c.args.index.now c.loop-place.index c.args.shared.now c.args.slots.now c.requires (omega (arith, c.if-slots-len.false, c.len.ensures.len))
    (subst (λ n. IsLowered (length c.args.shared.now) c.args.index.now n c.loop-place.index) at c.loop-place.invariant)).0

pub returns-clause-content : goal.returns-clause-content
returns-clause-content c = λ _.
    let at : c.loop-place.place ≡ length c.args.slots.now = omega (arith, c.loop-place-test.false, c.loop-place.auto.place-end) in
    (lowered_all c.args.index.now c.loop-place.index c.args.shared.now c.args.slots.now c.requires (omega (arith, c.if-slots-len.false, c.len.ensures.len))
    (subst (λ n. IsLowered (length c.args.shared.now) c.args.index.now n c.loop-place.index) at c.loop-place.invariant)).1
