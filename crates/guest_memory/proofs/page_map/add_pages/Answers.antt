use Rattle.std.proofs.Common.{◌+◌, sym, ap, subst, ◌∙◌}
use Rattle.std.specs.FinMap.{insert}
use Rattle.guest_memory.specs.Mapping.{AreMapped}
use Rattle.guest_memory.proofs.PageRanges.{mapped_more, next_free}
use Rattle.guest_memory.proofs.page_map.add_pages.Goals as goal

pub loop-index-preserved : goal.loop-index-preserved
loop-index-preserved c =
    subst (AreMapped c.args.pages.now c.args.first (c.loop-index.index + 1) c.args.prot)
    (sym (c.in_ok-insert.ensures.ok ∙ ap
    (insert c.loop-index.pages (c.args.first + c.loop-index.index)) c.new.ensures))
    (mapped_more c.args.pages.now c.loop-index.pages c.args.first c.loop-index.index c.args.prot
    c.loop-index.invariant)

pub insert-requires : goal.insert-requires
insert-requires c =
    next_free c.args.pages.now c.loop-index.pages c.args.first c.loop-index.index c.args.count c.args.prot c.requires.free
    c.loop-index.invariant c.loop-index-test.true
