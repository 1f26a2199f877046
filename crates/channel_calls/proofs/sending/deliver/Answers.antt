-- The carriers are more by the descriptors, and so are the holders.
use Rattle.std.proofs.Common.{ap, ◌∙◌, arith}
use Rattle.channel_calls.specs.Calls.{carriers_in}
use Rattle.channel_calls.proofs.Sends.{carriers_sent, few_sent, room_few}
use Rattle.channel_calls.proofs.sending.deliver.Goals as goal

pub returns-clause-counts : goal.returns-clause-counts
returns-clause-counts c =
    let can = c.requires.can in
    let done = c.in-Ok.ensures.ok can.channel can.there in
    λ o. omega (
      arith,
      c.hold_all.ensures.counts o,
      ap (carriers_in o) done.2,
      carriers_sent o c.args.channels.now c.args.id can.channel done.0 c.args.bytes.now c.args.carried.now c.in-Ok.count can.there done.1,
    )

pub returns-clause-few : goal.returns-clause-few
returns-clause-few c =
    let can = c.requires.can in
    let done = c.in-Ok.ensures.ok can.channel can.there in
    few_sent c.args.channels.now c.push_to.new.self c.args.objects.now.counts c.args.carried.now c.requires.covered
    (c.may_carry.ensures c.if-not-may_carry.false) (room_few _ can.channel can.room)
    (λ o. ap (carriers_in o) done.2
    ∙ carriers_sent o c.args.channels.now c.args.id can.channel done.0 c.args.bytes.now c.args.carried.now c.in-Ok.count can.there done.1)
