use Rattle.std.proofs.Common.{sym, ◌∙◌}
use Rattle.maps.proofs.NumberEntries.{get_of, removed_of, least_of, empty_iff}
use Rattle.maps.proofs.Variants.{IfSome-weaker}
use Rattle.wait_set.proofs.thread_set.ThreadSet.pop_first.Goals as goal

pub returns-clause-none : goal.returns-clause-none
returns-clause-none c = empty_iff c.pop_first.result _ _ c.self.view_is c.pop_first.ensures.variant

pub returns-clause-least : goal.returns-clause-least
returns-clause-least c = IfSome-weaker c.pop_first.result _ _ (λ entry lower. least_of _ _ entry.0 c.self.view_is lower) c.pop_first.ensures.least

pub returns-clause-value : goal.returns-clause-value
returns-clause-value c = IfSome-weaker c.pop_first.result _ _ (λ entry value. sym (get_of _ _ c.self.view_is entry.0) ∙ value) c.pop_first.ensures.value

pub returns-clause-new : goal.returns-clause-new
returns-clause-new c = IfSome-weaker c.pop_first.result _ _ (λ entry updates. removed_of _ _ _ entry.0 c.self.view_is updates.0) c.pop_first.ensures.updates
