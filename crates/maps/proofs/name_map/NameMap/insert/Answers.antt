use Rattle.std.proofs.Common.{◌≡◌, length, sym, ap, ◌∙◌, arith}
use Rattle.maps.specs.Placed.{placed}
use Rattle.maps.proofs.OrderedNames.{count_below_le-length}
use Rattle.maps.proofs.NameMaps.{place_within, with_new, with_again, length-new}
use Rattle.maps.proofs.name_map.NameMap.insert.Goals as goal

pub replace-requires : goal.replace-requires
replace-requires g c = place_within c.args.name.now c.self.inside.tree _ c.self.invariant c.below-place.ensures (sym c.is_at.ensures ∙ c.if-is_at.true)

pub invariant_of-self : goal.invariant_of-self
invariant_of-self g c =
    (with_again c.self.inside.tree _ _ c.args.name.now c.args.value _ c.self.view_is c.self.invariant c.below-place.ensures (sym c.is_at.ensures ∙ c.if-is_at.true) c.replace.ensures.new).0

pub returns-then-is_at-clause-ok : goal.returns-then-is_at-clause-ok
returns-then-is_at-clause-ok g c =
    (with_again c.self.inside.tree _ _ c.args.name.now c.args.value _ c.self.view_is c.self.invariant c.below-place.ensures (sym c.is_at.ensures ∙ c.if-is_at.true) c.replace.ensures.new).1

pub insert-tree-requires-clause-within : goal.insert-tree-requires-clause-within
insert-tree-requires-clause-within g c =
    let most = count_below_le-length c.args.name.now c.self.inside.tree in
    let place = c.below-place.ensures in
    let whole = ap length c.take.ensures.whole in
    omega (arith, most, place, whole)

pub invariant_of-self-2 : goal.invariant_of-self-2
invariant_of-self-2 g c =
    let is : c.fill.new.self ≡ placed c.below-place.result (c.args.name.now, c.args.value) c.self.inside.tree =
    c.fill.ensures ∙ c.insert-tree.ensures ∙ ap (λ x. placed c.below-place.result x c.take.result) c.in_ok-fresh.ensures.1
    ∙ ap (placed c.below-place.result (c.args.name.now, c.args.value)) c.take.ensures.whole in
    let more = length-new c.self.inside.tree _ _ _ is in
    let len = c.len.ensures in
    let room = c.if-len-ge-MOST_ENTRIES.false in
    (with_new c.self.inside.tree _ _ c.args.name.now c.args.value _ c.self.view_is c.self.invariant c.below-place.ensures (sym c.is_at.ensures ∙ c.if-is_at.false) (omega (arith, more, len, room)) is).0

pub returns-clause-ok : goal.returns-clause-ok
returns-clause-ok g c =
    let is : c.fill.new.self ≡ placed c.below-place.result (c.args.name.now, c.args.value) c.self.inside.tree =
    c.fill.ensures ∙ c.insert-tree.ensures ∙ ap (λ x. placed c.below-place.result x c.take.result) c.in_ok-fresh.ensures.1
    ∙ ap (placed c.below-place.result (c.args.name.now, c.args.value)) c.take.ensures.whole in
    let more = length-new c.self.inside.tree _ _ _ is in
    let len = c.len.ensures in
    let room = c.if-len-ge-MOST_ENTRIES.false in
    (with_new c.self.inside.tree _ _ c.args.name.now c.args.value _ c.self.view_is c.self.invariant c.below-place.ensures (sym c.is_at.ensures ∙ c.if-is_at.false) (omega (arith, more, len, room)) is).1
