use Rattle.std.proofs.Common.{◌≡◌, ◌<◌, length, Some, subst, sym, ap, ◌∙◌}
use Rattle.maps.specs.Placed.{placed}
use Rattle.maps.specs.NameTrees.{entry_in}
use Rattle.maps.proofs.NameMaps.{place_within, without, absent}
use Rattle.maps.proofs.name_map.NameMap.remove.Goals as goal

pub returns-then-not-is_at-clause-value : goal.returns-then-not-is_at-clause-value
returns-then-not-is_at-clause-value g c = (absent _ _ c.args.name.now c.self.view_is c.self.invariant (sym c.is_at.ensures ∙ c.if-not-is_at.true)).0

pub returns-then-not-is_at-clause-new : goal.returns-then-not-is_at-clause-new
returns-then-not-is_at-clause-new g c = (absent _ _ c.args.name.now c.self.view_is c.self.invariant (sym c.is_at.ensures ∙ c.if-not-is_at.true)).1

pub remove-node-requires-clause-within : goal.remove-node-requires-clause-within
remove-node-requires-clause-within g c =
    subst (λ es. c.below-place.result < length es) (sym c.take.ensures.whole)
    (place_within c.args.name.now c.self.inside.tree _ c.self.invariant c.below-place.ensures (sym c.is_at.ensures ∙ c.if-not-is_at.false))

pub invariant_of-self : goal.invariant_of-self
invariant_of-self g c =
    let is : c.self.inside.tree ≡ placed c.below-place.result (entry_in c.remove-node.result.0.value) c.fill.new.self =
    sym c.take.ensures.whole ∙ c.remove-node.ensures.entry ∙ ap (placed c.below-place.result (entry_in c.remove-node.result.0.value)) (sym c.fill.ensures) in
    (without c.self.inside.tree _ _ c.args.name.now _ _ c.self.view_is c.self.invariant c.below-place.ensures (sym c.is_at.ensures ∙ c.if-not-is_at.false) is).0

pub returns-clause-value : goal.returns-clause-value
returns-clause-value g c =
    let is = sym c.take.ensures.whole ∙ c.remove-node.ensures.entry in
    ap Some c.into_value.ensures
    ∙ (without c.self.inside.tree _ _ c.args.name.now _ _ c.self.view_is c.self.invariant c.below-place.ensures (sym c.is_at.ensures ∙ c.if-not-is_at.false) is).2

pub returns-clause-new : goal.returns-clause-new
returns-clause-new g c =
    let is : c.self.inside.tree ≡ placed c.below-place.result (entry_in c.remove-node.result.0.value) c.fill.new.self =
    sym c.take.ensures.whole ∙ c.remove-node.ensures.entry ∙ ap (placed c.below-place.result (entry_in c.remove-node.result.0.value)) (sym c.fill.ensures) in
    (without c.self.inside.tree _ _ c.args.name.now _ _ c.self.view_is c.self.invariant c.below-place.ensures (sym c.is_at.ensures ∙ c.if-not-is_at.false) is).1
