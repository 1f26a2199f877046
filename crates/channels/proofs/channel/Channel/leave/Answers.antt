use Rattle.channels.proofs.Kept.{IsChannel-old}
use Rattle.channels.proofs.channel.Channel.leave.Goals as goal

pub returns-in-Writer-clause-may_be : goal.returns-in-Writer-clause-may_be
returns-in-Writer-clause-may_be c = IsChannel-old c.self.inside.kind _ _ _ _ _ _ c.self.inside.writer _ _ c.self.invariant _ c.self.view_is
