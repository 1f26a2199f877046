use Rattle.std.proofs.Common.{arith}
use Rattle.channels.proofs.Kept.{bytes_count}
use Rattle.channels.proofs.channel.Channel.room.Goals as goal

pub returns : goal.returns
returns c = omega (arith, c.len.ensures.len, bytes_count c.self.inside.kind _ _ _ _ _ _ c.self.inside.writer _ _ c.self.invariant _ c.self.view_is)
