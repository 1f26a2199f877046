use Rattle.std.proofs.Common.{◌+◌, sym, subst}
use Rattle.std.specs.FinMap.{insert}
use Rattle.guest_memory.specs.Mapping.{AreMapped}
use Rattle.guest_memory.proofs.PageRanges.{mapped_more}
use Rattle.guest_memory.proofs.ListedPages.{reset_there}
use Rattle.guest_memory.proofs.room.reset_pages.Goals as goal

pub get_mut-requires : goal.get_mut-requires
get_mut-requires c =
    reset_there c.args.pages.now c.loop-index.pages c.args.first c.loop-index.index c.args.count c.args.prot
    c.requires.there c.loop-index.invariant c.loop-index-test.true

pub loop-index-preserved : goal.loop-index-preserved
loop-index-preserved c =
    subst (λ page. AreMapped c.args.pages.now c.args.first (c.loop-index.index + 1) c.args.prot
    (insert c.loop-index.pages (c.args.first + c.loop-index.index) page)) (sym c.reset.ensures)
    (mapped_more c.args.pages.now c.loop-index.pages c.args.first c.loop-index.index c.args.prot
    c.loop-index.invariant)
