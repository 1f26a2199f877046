use Rattle.std.proofs.Common.{sym, ◌∙◌}
use Rattle.object_store.proofs.Unheld.{popped, none_popped}
use Rattle.object_store.proofs.objects.Objects.remove_unheld.Goals as goal

pub loop-smaller : goal.loop-smaller
loop-smaller c = (popped _ _ _ (sym c.is_some.ensures ∙ c.loop-test.true) c.pop_unheld.ensures.unheld c.pop_unheld.ensures.new).0

pub loop-preserved : goal.loop-preserved
loop-preserved c = (popped _ _ _ (sym c.is_some.ensures ∙ c.loop-test.true) c.pop_unheld.ensures.unheld c.pop_unheld.ensures.new).1 ∙ c.loop.invariant

pub returns : goal.returns
returns c =
    none_popped c.loop.self _ c.pop_unheld.result (sym c.is_some.ensures ∙ c.loop-test.false) c.pop_unheld.ensures.unchanged c.pop_unheld.ensures.all c.pop_unheld.ensures.none.0
    ∙ c.loop.invariant
