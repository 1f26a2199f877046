use Rattle.std.proofs.Common.{sym}
use Rattle.guest_memory.proofs.PageRanges.{there_none, there_more, first_absent_of, is_none}
use Rattle.guest_memory.proofs.page_map.first_absent.Goals as goal

pub loop-index-init : goal.loop-index-init
loop-index-init c = there_none c.args.pages.now c.args.first

pub loop-index-preserved : goal.loop-index-preserved
loop-index-preserved c = there_more c.args.pages.now c.args.first c.loop-index.index c.loop-index.invariant
    (sym c.if-not-contains.ensures)

pub returns-then-not-contains : goal.returns-then-not-contains
returns-then-not-contains c = first_absent_of c.args.pages.now c.args.first c.loop-index.index c.args.count
    c.loop-index.invariant (is_none _ c.if-not-contains.ensures) c.loop-index-test.true
