use Rattle.std.proofs.Common.{◌/◌, inr, arith}
use Rattle.call_codec.proofs.Puts.{unmapped_within, clipped, none_unmapped, past_end}
use Rattle.call_codec.proofs.replies.unmap.Goals as goal

pub returns-then-at-lt-GUEST_END : goal.returns-then-at-lt-GUEST_END
returns-then-at-lt-GUEST_END c =
    let clip = clipped c.args.at c.args.pages c.min-count.result c.requires.aligned c.if-at-lt-GUEST_END.true c.min-count.ensures in
    unmapped_within c.args.memory.now c.unmap.new.self (c.args.at / 4096) c.min-count.result c.args.pages c.keeps_limits.ensures clip.0 clip.1 c.unmap.ensures

pub returns-else-at-lt-GUEST_END : goal.returns-else-at-lt-GUEST_END
returns-else-at-lt-GUEST_END c =
    unmapped_within c.args.memory.now c.args.memory.now (c.args.at / 4096) 0 c.args.pages c.keeps_limits.ensures
    (omega arith) (inr (past_end c.args.at c.if-at-lt-GUEST_END.false)) (none_unmapped c.args.memory.now (c.args.at / 4096))
