use Rattle.std.proofs.Common.{◌/◌}
use Rattle.std.proofs.Math.Facts.{Fits-of_lt}
use Rattle.call_codec.proofs.Puts.{guests_pages, few_pages, ends_below, is_protected}
use Rattle.call_codec.proofs.replies.protect.Goals as goal

pub overflow_cast-pages : goal.overflow_cast-pages
overflow_cast-pages c =
    Fits-of_lt
    (few_pages (c.args.at / 4096) c.args.pages (guests_pages c.args.memory.now c.keeps_limits.ensures (c.args.at / 4096) c.args.pages c.requires.there))

pub protect-requires-clause-high : goal.protect-requires-clause-high
protect-requires-clause-high c =
    ends_below c.args.at c.args.pages c.requires.aligned (c.ranges.at.fits)
    (guests_pages c.args.memory.now c.keeps_limits.ensures (c.args.at / 4096) c.args.pages c.requires.there)

pub returns : goal.returns
returns c =
    is_protected c.protect.result c.args.memory.now c.protect.new.self (c.args.at / 4096) c.args.pages c.args.prot c.requires.there
    c.protect.ensures.ok c.protect.ensures.fault
