use Rattle.channels.proofs.Kept.{IsChannel-old}
use Rattle.channels.proofs.channel.Channel.shut.Goals as goal

pub returns-in-Writer-clause-may_be : goal.returns-in-Writer-clause-may_be
returns-in-Writer-clause-may_be c = IsChannel-old c.self-in-Writer.inside.kind _ _ _ _ _ _ c.self-in-Writer.inside.writer _ _ c.self-in-Writer.invariant _ c.self-in-Writer.view_is
