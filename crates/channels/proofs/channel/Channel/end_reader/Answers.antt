use Rattle.std.proofs.Common.{◌∙◌, arith}
use Rattle.channels.proofs.Kept.{IsChannel-old, carried_count, seen_shut, all_released}
use Rattle.channels.proofs.channel.Channel.end_reader.Goals as goal

pub move_first-requires-clause-fits : goal.move_first-requires-clause-fits
move_first-requires-clause-fits c =
    omega (arith, c.len-count.ensures.len, carried_count c.self.inside.kind _ _ _ _ _ _ c.self.inside.writer _ _ c.self.invariant _ c.self.view_is, c.requires)

pub returns-clause-count : goal.returns-clause-count
returns-clause-count c = c.len-count.ensures.len ∙ carried_count c.self.inside.kind _ _ _ _ _ _ c.self.inside.writer _ _ c.self.invariant _ c.self.view_is

pub returns-clause-released : goal.returns-clause-released
returns-clause-released c =
    all_released c.self.inside.kind _ _ _ _ _ _ c.self.inside.writer _ _ c.self.invariant _ c.self.view_is c.len-count.result c.args.fds.now c.move_first.new.out
    c.len-count.ensures.len c.move_first.ensures.out

pub returns-clause-channel : goal.returns-clause-channel
returns-clause-channel c =
    seen_shut c.self.inside.kind _ _ _ _ _ _ c.self.inside.writer _ _ c.self.invariant _ c.self.view_is c.args.to c.len.result c.clear.new.self.items c.clear-2.new.self.items
    c.move_first.new.ring.items (c.len.ensures ∙ c.self.inside.pieces.ok.0) c.clear.ensures.items

pub returns-clause-may_be : goal.returns-clause-may_be
returns-clause-may_be c = IsChannel-old c.self.inside.kind _ _ _ _ _ _ c.self.inside.writer _ _ c.self.invariant _ c.self.view_is
