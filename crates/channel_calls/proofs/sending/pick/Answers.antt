-- All are copied where none is left, and stand at the beginning where they have room.
use Rattle.std.proofs.Common.{◌≡◌, [], length, drop, sym, subst, ap, ◌∙◌, arith}
use Rattle.channels.specs.Channels.{IsFilled}
use Rattle.kernel_model.specs.Families.ChannelCalls.{picked}
use Rattle.channel_calls.proofs.Sends.{none_left, put_all, put_at_start}
use Rattle.channel_calls.proofs.sending.pick.Goals as goal

pub returns-clause-filled : goal.returns-clause-filled
returns-clause-filled c =
    let ds = picked c.args.table.now c.args.fds.now in
    let none : picked c.args.table.now (drop c.loop-fd.fd-index c.args.fds.now) ≡ [] =
    none_left c.args.table.now c.args.fds.now c.loop-fd.fd-index (omega (arith, c.loop-fd-test.false)) in
    let is : c.loop-fd.out ≡ put_all 0 ds c.args.out.now =
    sym (ap (λ rest. put_all c.loop-fd.count rest c.loop-fd.out) none) ∙ c.loop-fd.invariant.filled in
    λ fits. subst (IsFilled ds c.args.out.now) (sym is)
    (put_at_start ds c.args.out.now (omega (arith, fits, c.loop-fd.invariant.count, ap length none)))
