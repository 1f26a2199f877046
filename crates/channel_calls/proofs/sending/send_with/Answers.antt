-- What was copied is what the table has under the numbers.
use Rattle.std.proofs.Common.{sym, subst, arith}
use Rattle.channel_calls.specs.Sends.{AreHeld}
use Rattle.kernel_model.specs.Families.ChannelCalls.{picked}
use Rattle.channel_calls.proofs.Sends.{picked_held, room_few, take_filled}
use Rattle.channel_calls.proofs.sending.send_with.Goals as goal

pub deliver-requires-clause-held : goal.deliver-requires-clause-held
deliver-requires-clause-held c =
    let table = c.args.table.now in
    let can = c.in-Ok.ensures.ok in
    subst (AreHeld c.args.objects.now.counts)
    (sym (take_filled c.pick-count.result (picked table c.args.fds.now) _ c.pick-count.new.out c.pick-count.ensures.count
    (c.pick-count.ensures.filled (room_few _ can.channel can.room))))
    (picked_held c.args.objects.now.counts table c.args.fds.now (λ o. omega (arith, c.requires.covered o)))
