use Rattle.std.proofs.Common.{◌<◌, ◌^◌, sym, ◌∙◌, arith}
use Rattle.call_codec.proofs.Events.{events_left, no_event_left}
use Rattle.call_codec.proofs.output.put_each_event.Goals as goal

pub loop-event-preserved : goal.loop-event-preserved
loop-event-preserved c =
    let small : c.loop-event.next < 2 ^ 64 = omega arith in
    let left =
    events_left c.loop-event.memory c.put_bytes.new.memory _ c.loop-event.next c.loop-event.event-index c.args.events.now _ c.event_bytes.result
    small c.loop-event-test.true c.event_bytes.ensures c.put_bytes.ensures c.loop-event.invariant.all c.loop-event.invariant.room in
    record { all = left.0; room = left.1 }

pub returns : goal.returns
returns c =
    sym (no_event_left c.loop-event.memory c.loop-event.next c.loop-event.event-index c.args.events.now (omega (arith, c.loop-event-test.false)))
    ∙ c.loop-event.invariant.all
