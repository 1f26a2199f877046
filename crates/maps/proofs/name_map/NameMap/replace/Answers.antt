use Rattle.std.proofs.Common.{IsSome, subst, ◌∙◌}
use Rattle.maps.proofs.OrderedNames.{get_of}
use Rattle.maps.proofs.NameMaps.{place_within, with_again, value_there}
use Rattle.maps.proofs.name_map.NameMap.replace.Goals as goal

pub replace-requires : goal.replace-requires
replace-requires g c =
    let there = subst IsSome (get_of _ _ c.self.view_is c.self.invariant c.args.name.now) c.requires in
    place_within c.args.name.now c.self.inside.tree _ c.self.invariant c.below-place.ensures there

pub invariant_of-self : goal.invariant_of-self
invariant_of-self g c =
    let there = subst IsSome (get_of _ _ c.self.view_is c.self.invariant c.args.name.now) c.requires in
    (with_again c.self.inside.tree _ _ c.args.name.now c.args.value _ c.self.view_is c.self.invariant c.below-place.ensures there c.replace.ensures.new).0

pub returns-clause-old : goal.returns-clause-old
returns-clause-old g c = c.replace.ensures.old ∙ value_there c.self.inside.tree _ c.args.name.now _ c.self.view_is c.self.invariant c.below-place.ensures c.requires

pub returns-clause-new : goal.returns-clause-new
returns-clause-new g c =
    let there = subst IsSome (get_of _ _ c.self.view_is c.self.invariant c.args.name.now) c.requires in
    (with_again c.self.inside.tree _ _ c.args.name.now c.args.value _ c.self.view_is c.self.invariant c.below-place.ensures there c.replace.ensures.new).1
