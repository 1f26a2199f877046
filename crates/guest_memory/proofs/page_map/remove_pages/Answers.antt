use Rattle.std.proofs.Common.{sym, subst, ◌<◌}
use Rattle.std.specs.FinMap.{len}
use Rattle.guest_memory.specs.Page.{Pages}
use Rattle.guest_memory.specs.Mapping.{AreSameOutside}
use Rattle.guest_memory.proofs.PageRanges.{removed_less, same_outside_removed}
use Rattle.guest_memory.proofs.page_map.remove_pages.Goals as goal

pub loop-number-smaller : goal.loop-number-smaller
loop-number-smaller c =
    subst (λ (pages : Pages). len pages < len c.loop-number.pages) (sym c.remove.ensures.new)
    (removed_less c.loop-number.pages c.in-Some.number c.in-Some.ensures.holds)

pub loop-number-preserved : goal.loop-number-preserved
loop-number-preserved c =
    subst (AreSameOutside c.args.pages.now c.args.first c.args.count) (sym c.remove.ensures.new)
    (same_outside_removed c.args.pages.now c.loop-number.pages c.args.first c.args.count c.in-Some.number
    c.loop-number.invariant c.in-Some.ensures.within)
