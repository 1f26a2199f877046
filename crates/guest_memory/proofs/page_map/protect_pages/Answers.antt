use Rattle.std.proofs.Common.{◌+◌, sym, subst}
use Rattle.std.specs.FinMap.{insert}
use Rattle.guest_memory.specs.Mapping.{AreProtected}
use Rattle.guest_memory.proofs.PageRanges.{protected_more}
use Rattle.guest_memory.proofs.page_map.protect_pages.Goals as goal

pub loop-index-preserved : goal.loop-index-preserved
loop-index-preserved c =
    let more = protected_more c.args.pages.now c.loop-index.pages c.args.first c.loop-index.index c.args.prot
    c.get_mut.result.now c.loop-index.invariant c.get_mut.ensures.value in
    subst (λ page. AreProtected c.args.pages.now c.args.first (c.loop-index.index + 1) c.args.prot
    (insert c.loop-index.pages (c.args.first + c.loop-index.index) page)) (sym c.set_prot.ensures) more
