use Rattle.std.proofs.Common.{min, sym, ap, ◌∙◌}
use Rattle.channels.proofs.Kept.{IsChannel-old, bytes_read, reach_was}
use Rattle.channels.proofs.channel.Channel.reach.Goals as goal

pub returns-clause-count : goal.returns-clause-count
returns-clause-count c =
    c.reach_in.ensures ∙ ap (min c.args.asked) (reach_was c.self.inside.kind _ _ _ _ _ _ c.self.inside.writer _ _ c.self.invariant _ c.self.view_is) ∙ sym (bytes_read c.self.inside.kind _ _ _ _ _ _ c.self.inside.writer _ _ c.self.invariant _ c.self.view_is c.args.asked)

pub returns-clause-most : goal.returns-clause-most
returns-clause-most c = c.reach_in.ensures ∙ ap (min c.args.asked) (reach_was c.self.inside.kind _ _ _ _ _ _ c.self.inside.writer _ _ c.self.invariant _ c.self.view_is)

pub returns-clause-may_be : goal.returns-clause-may_be
returns-clause-may_be c = IsChannel-old c.self.inside.kind _ _ _ _ _ _ c.self.inside.writer _ _ c.self.invariant _ c.self.view_is
