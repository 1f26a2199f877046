use Rattle.std.proofs.Common.{◌∙◌}
use Rattle.channels.proofs.Kept.{sends_count}
use Rattle.channels.proofs.channel.Channel.sends.Goals as goal

pub returns : goal.returns
returns c = c.len.ensures ∙ c.self.inside.pieces.ok.0 ∙ sends_count c.self.inside.kind _ _ _ _ _ _ c.self.inside.writer _ _ c.self.invariant _ c.self.view_is
