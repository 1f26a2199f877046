use Rattle.std.proofs.Common.{◌<◌, ◌^◌, length, arith}
use Rattle.file_calls.proofs.Pages.{pages_taken}
use Rattle.file_calls.proofs.reading.pages.Goals as goal

pub returns : goal.returns
returns c =
    let fits : length c.args.bytes.now < 2 ^ 64 = omega arith in
    pages_taken c.args.bytes.now c.args.at c.args.length c.div_ceil.result c.saturating_mul-most.result c.min.result c.piece.result.now
    c.div_ceil.ensures c.saturating_mul-most.ensures fits c.min.ensures c.piece.ensures
