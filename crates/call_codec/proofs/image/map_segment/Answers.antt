use Rattle.std.proofs.Common.{◌+◌, arith}
use Rattle.std.proofs.lemmas.Result.{err_from_is_err_and}
use Rattle.call_codec.specs.Image.{first_page}
use Rattle.call_codec.proofs.Images.{whole_segment}
use Rattle.call_codec.proofs.Rooms.{next_page, only_memory}
use Rattle.call_codec.proofs.image.map_segment.Goals as goal

pub returns-in_err-map_segment_page-clause-only : goal.returns-in_err-map_segment_page-clause-only
returns-in_err-map_segment_page-clause-only c =
    let m = c.loop-index.memory in
    let may =
    next_page c.args.memory.now m c.args.segment.now c.page_count-index-end.result c.loop-index.index c.page_count-index-end.ensures c.loop-index-test.true
    c.loop-index.invariant c.requires.room in
    let p = err_from_is_err_and c.from_residual.result c.from_residual.ensures.1 in
    rw (p.1, p.2) (only_memory m (first_page c.args.segment.now + c.loop-index.index) 1 _ may c.in_err-map_segment_page.ensures.fault)

pub returns-clause-ok : goal.returns-clause-ok
returns-clause-ok c = whole_segment c.args.memory.now c.loop-index.memory c.args.segment.now c.page_count-index-end.result c.loop-index.index c.page_count-index-end.ensures (omega arith) c.loop-index.invariant
