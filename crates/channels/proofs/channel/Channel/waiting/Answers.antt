use Rattle.std.proofs.Common.{◌∙◌}
use Rattle.channels.proofs.Kept.{bytes_count, IsChannel-old}
use Rattle.channels.proofs.channel.Channel.waiting.Goals as goal

pub returns-clause-waiting : goal.returns-clause-waiting
returns-clause-waiting c = c.len.ensures.len ∙ bytes_count c.self.inside.kind _ _ _ _ _ _ c.self.inside.writer _ _ c.self.invariant _ c.self.view_is

pub returns-clause-may_be : goal.returns-clause-may_be
returns-clause-may_be c = IsChannel-old c.self.inside.kind _ _ _ _ _ _ c.self.inside.writer _ _ c.self.invariant _ c.self.view_is
