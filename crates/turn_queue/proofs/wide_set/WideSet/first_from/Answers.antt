use Rattle.std.proofs.Common.{sym, ap, ◌∙◌}
use Rattle.maps.proofs.NumberEntries.{least_from, key_of_first}
use Rattle.turn_queue.proofs.wide_set.WideSet.first_from.Goals as goal

pub returns-in_err-first : goal.returns-in_err-first
returns-in_err-first c =
    c.from_residual.ensures ∙ sym
    (least_from c.args.least _ _ _ c.self.view_is c.range.ensures.ordered (c.range.ensures.between tt)
    ∙ ap key_of_first c.in_err-first.ensures.steps.0)

pub returns : goal.returns
returns c = sym (least_from c.args.least _ _ _ c.self.view_is c.range.ensures.ordered (c.range.ensures.between tt)
    ∙ ap key_of_first c.in_ok-first.ensures.steps)
