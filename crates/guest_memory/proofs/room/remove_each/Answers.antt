use Rattle.std.proofs.Common.{slice_index_or, ap, ◌∙◌}
use Rattle.std.specs.FinMap.{remove}
use Rattle.guest_memory.specs.Page.{Pages}
use Rattle.guest_memory.proofs.ListedPages.{without_each-more}
use Rattle.guest_memory.proofs.room.remove_each.Goals as goal

pub loop-number-preserved : goal.loop-number-preserved
loop-number-preserved c =
    c.remove.ensures.new
    ∙ ap (λ (m : Pages). remove m (slice_index_or c.args.numbers.now c.loop-number.number-index 0))
    c.loop-number.invariant
    ∙ without_each-more c.args.numbers.now c.loop-number.number-index c.args.pages.now c.loop-number-test.true
