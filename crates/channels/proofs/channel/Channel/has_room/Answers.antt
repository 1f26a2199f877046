use Rattle.std.proofs.Common.{◌≡◌, ◌-◌, ℕ, leb, length, ap, ◌∙◌, arith}
use Rattle.channels.specs.Channels.{carried_of, room}
use Rattle.channels.proofs.Kept.{carried_count}
use Rattle.channels.proofs.Takes.{has_rest}
use Rattle.channels.proofs.channel.Channel.has_room.Goals as goal

pub returns-then-room-gt0 : goal.returns-then-room-gt0
returns-then-room-gt0 c =
    let few = carried_count c.self.inside.kind _ _ _ _ _ _ c.self.inside.writer _ _ c.self.invariant _ c.self.view_is in
    let waits : c.len.result ≡ length (carried_of c.args.self.now.waiting) = c.len.ensures.len ∙ few in
    ap (λ (n : ℕ). leb c.args.carried (64 - n)) waits
    ∙ has_rest (room c.args.self.now) (length (carried_of c.args.self.now.waiting)) c.args.carried (omega (arith, c.if-room-gt0.true, c.room.ensures))
    (omega (arith, few, c.self.invariant.most.1))
