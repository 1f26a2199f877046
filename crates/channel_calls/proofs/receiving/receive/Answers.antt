use Rattle.std.proofs.Common.{true, sym, subst}
use Rattle.kernel_model.specs.Outcome.{Outcome}
use Rattle.channel_calls.specs.Done.{IsSocketDone}
use Rattle.channel_calls.proofs.Received.{receive_takes}
use Rattle.channel_calls.proofs.receiving.receive.Goals as goal

pub returns-clause-done : goal.returns-clause-done
returns-clause-done c = λ p.
    let s = c.in-Some.socket in
    let asked = c.args.asked.now in
    subst (λ (o : Outcome). IsSocketDone true o c.args.table.now c.take.new.table c.args.channels.now c.take.new.channels c.take.result) (sym
    (receive_takes p c.args.table.now c.args.channels.now c.args.kind.now s.reads s.writes s.flags asked.length asked.room asked.flags s.kind
    c.in-Some-get.channel.now c.in-Some.ensures.some (sym c.in-Some-get.ensures) (sym c.if-must_wait.ensures) c.if-asked-ne0.false))
    (c.take.ensures.done c.in-Some-get.channel.now (sym c.in-Some-get.ensures) p)
