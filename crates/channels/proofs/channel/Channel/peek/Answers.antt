use Rattle.std.proofs.Common.{length, arith}
use Rattle.channels.proofs.Kept.{reach_most, peeked}
use Rattle.channels.proofs.channel.Channel.peek.Goals as goal

pub copy_first-requires-clause-there : goal.copy_first-requires-clause-there
copy_first-requires-clause-there c = omega (arith, c.reach-count.ensures.most, reach_most c.self.inside.kind _ _ _ _ _ _ c.self.inside.writer _ _ c.self.invariant _ c.self.view_is)

pub returns-clause-bytes : goal.returns-clause-bytes
returns-clause-bytes c =
    peeked c.self.inside.kind _ _ _ _ _ _ c.self.inside.writer _ _ c.self.invariant _ c.self.view_is (length c.args.out.now) c.reach-count.result c.args.out.now c.copy_first.new.out c.reach-count.ensures.most c.copy_first.ensures
