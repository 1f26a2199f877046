use Rattle.std.proofs.Common.{cond, Some, None, sym, ap, ◌∙◌}
use Rattle.maps.proofs.OrderedNames.{get_seen}
use Rattle.maps.proofs.name_map.NameMap.get.Goals as goal

pub returns-then-is_same : goal.returns-then-is_same
returns-then-is_same g c =
    sym (get_seen _ _ c.args.name.now _ _ c.self.view_is c.self.invariant c.below.ensures c.in-Some.ensures.entry
    ∙ ap (λ b. cond b (Some c.in-Some.value.now) None) (sym c.is_same.ensures ∙ c.if-is_same.true))

pub returns-else-is_same : goal.returns-else-is_same
returns-else-is_same g c =
    sym (get_seen _ _ c.args.name.now _ _ c.self.view_is c.self.invariant c.below.ensures c.in-Some.ensures.entry
    ∙ ap (λ b. cond b (Some c.in-Some.value.now) None) (sym c.is_same.ensures ∙ c.if-is_same.false))

pub returns-in-None : goal.returns-in-None
returns-in-None g c = sym (get_seen _ _ c.args.name.now _ _ c.self.view_is c.self.invariant c.below.ensures c.in-None.ensures.entry)
