use Rattle.std.proofs.Common.{sym, ◌∙◌, arith}
use Rattle.channels.proofs.Kept.{IsChannel-old, kept_pushed, is_pushed}
use Rattle.channels.proofs.Takes.{would_push}
use Rattle.channels.proofs.channel.Channel.push.Goals as goal

pub returns-then-self-len-ge-MOST_SENDS-clause-err : goal.returns-then-self-len-ge-MOST_SENDS-clause-err
returns-then-self-len-ge-MOST_SENDS-clause-err c =
    would_push c.args.bytes.now c.args.carried.now c.args.self.now (sym c.is_hung.ensures ∙ c.if-is_hung.false)
    (sym c.has_room.ensures ∙ c.if-not-has_room.false)

pub returns-in_default-clause-err : goal.returns-in_default-clause-err
returns-in_default-clause-err c =
    would_push c.args.bytes.now c.args.carried.now c.args.self.now (sym c.is_hung.ensures ∙ c.if-is_hung.false)
    (sym c.has_room.ensures ∙ c.if-not-has_room.false)

pub invariant_of-self-2 : goal.invariant_of-self-2
invariant_of-self-2 c =
    kept_pushed c.self.inside.kind _ _ _ _ _ _ c.self.inside.writer _ _ c.self.invariant _ c.self.view_is c.args.bytes.now c.args.carried.now c.fill_from_slice-count.result
    c.fill_from_slice.result c.reserve.new.self.items c.push_back_reserved.new.self.items c.fill_from_slice-count.new.self c.fill_from_slice.new.self
    c.fill_from_slice-count.ensures.count c.fill_from_slice-count.ensures.items c.fill_from_slice.ensures.count c.fill_from_slice.ensures.items
    c.reserve.ensures.items c.push_back_reserved.ensures.items c.requires (sym c.is_hung.ensures ∙ c.if-is_hung.false)
    (sym c.has_room.ensures ∙ c.if-not-has_room.false) (omega (arith, c.if-self-len-ge-MOST_SENDS.false, c.len.ensures, c.self.inside.pieces.ok.0))

pub returns-clause-ok : goal.returns-clause-ok
returns-clause-ok c =
    is_pushed c.self.inside.kind _ _ _ _ _ _ c.self.inside.writer _ _ c.self.invariant _ c.self.view_is c.args.bytes.now c.args.carried.now c.fill_from_slice-count.result
    c.fill_from_slice.result c.reserve.new.self.items c.push_back_reserved.new.self.items c.fill_from_slice-count.new.self c.fill_from_slice.new.self
    c.fill_from_slice-count.ensures.count c.fill_from_slice-count.ensures.items c.fill_from_slice.ensures.count c.fill_from_slice.ensures.items
    c.reserve.ensures.items c.push_back_reserved.ensures.items c.requires (sym c.is_hung.ensures ∙ c.if-is_hung.false)
    (sym c.has_room.ensures ∙ c.if-not-has_room.false)

pub returns-then-is_hung-clause-may_be : goal.returns-then-is_hung-clause-may_be
returns-then-is_hung-clause-may_be c = IsChannel-old c.self.inside.kind _ _ _ _ _ _ c.self.inside.writer _ _ c.self.invariant _ c.self.view_is

pub returns-then-not-has_room-clause-may_be : goal.returns-then-not-has_room-clause-may_be
returns-then-not-has_room-clause-may_be c = IsChannel-old c.self.inside.kind _ _ _ _ _ _ c.self.inside.writer _ _ c.self.invariant _ c.self.view_is

pub returns-then-self-len-ge-MOST_SENDS-clause-may_be : goal.returns-then-self-len-ge-MOST_SENDS-clause-may_be
returns-then-self-len-ge-MOST_SENDS-clause-may_be c = IsChannel-old c.self.inside.kind _ _ _ _ _ _ c.self.inside.writer _ _ c.self.invariant _ c.self.view_is

pub returns-in_default-clause-may_be : goal.returns-in_default-clause-may_be
returns-in_default-clause-may_be c = IsChannel-old c.self.inside.kind _ _ _ _ _ _ c.self.inside.writer _ _ c.self.invariant _ c.self.view_is

pub returns-clause-may_be : goal.returns-clause-may_be
returns-clause-may_be c = IsChannel-old c.self.inside.kind _ _ _ _ _ _ c.self.inside.writer _ _ c.self.invariant _ c.self.view_is
