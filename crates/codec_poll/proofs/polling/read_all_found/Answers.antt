use Rattle.std.proofs.Common.{◌-◌, ◌<◌, sym, ◌∙◌, arith}
use Rattle.codec_arguments.proofs.Gathering.{fault_left, next_left, none_left}
use Rattle.codec_poll.specs.Poll.{found_at}
use Rattle.codec_poll.proofs.polling.read_all_found.Goals as goal

pub returns-in-Err : goal.returns-in-Err
returns-in-Err c =
    let some : 0 < c.args.count - c.loop.counter = omega arith in
    sym c.loop.invariant ∙ fault_left (found_at c.args.memory.now) 56 c.loop.found c.loop.next _ c.in-Err.errno some (sym c.in-Err.ensures)

pub loop-preserved : goal.loop-preserved
loop-preserved c =
    let next = next_left (found_at c.args.memory.now) 56 c.loop.found c.in-Ok.subscription c.loop.next c.args.count c.loop.counter c.loop-test.true (sym c.in-Ok.ensures) in
    rw c.in_ok-push-in-Ok.ensures.ok (sym next ∙ c.loop.invariant)

pub returns : goal.returns
returns c = sym (sym (none_left (found_at c.args.memory.now) 56 c.loop.found c.loop.next (c.args.count - c.loop.counter) (omega arith)) ∙ c.loop.invariant)
