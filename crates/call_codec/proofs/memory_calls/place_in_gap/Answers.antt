use Rattle.std.proofs.Common.{arith}
use Rattle.call_codec.proofs.MemoryCalls.{gap_is_place, no_gap_no_place}
use Rattle.call_codec.proofs.memory_calls.place_in_gap.Goals as goal

pub returns-in-Some : goal.returns-in-Some
returns-in-Some c = gap_is_place c.args.memory.now c.args.pages c.in-Some.at (omega (arith, c.if-len-pages-gt-PAGE_LIMIT.false, c.len.ensures.is)) c.in-Some.ensures.some

pub returns-in-None : goal.returns-in-None
returns-in-None c = no_gap_no_place c.args.memory.now c.args.pages (omega (arith, c.if-len-pages-gt-PAGE_LIMIT.false, c.len.ensures.is)) c.in-None.ensures.none
