use Rattle.std.proofs.Common.{sym, ap, ◌∙◌}
use Rattle.maps.proofs.NumberEntries.{least_after, key_of_first}
use Rattle.maps.proofs.num_map.NumMap.first_after.Goals as goal

pub returns-in_err-first : goal.returns-in_err-first
returns-in_err-first g c =
    c.from_residual.ensures ∙ sym
    (least_after c.args.key _ _ _ c.self.view_is c.range.ensures.ordered (c.range.ensures.between tt)
    ∙ ap key_of_first c.in_err-first.ensures.steps.0)

pub returns : goal.returns
returns g c = sym (least_after c.args.key _ _ _ c.self.view_is c.range.ensures.ordered (c.range.ensures.between tt)
    ∙ ap key_of_first c.in_ok-first.ensures.steps)
