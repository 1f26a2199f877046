use Rattle.std.proofs.Common.{◌-◌, ◌<◌, sym, ◌∙◌, arith}
use Rattle.codec_arguments.specs.Bytes.{number_in}
use Rattle.codec_arguments.proofs.Gathering.{fault_left, next_left, none_left}
use Rattle.codec_arguments.proofs.bytes.read_descriptors.Goals as goal

pub returns-in-Err : goal.returns-in-Err
returns-in-Err c =
    let some : 0 < c.args.count - c.loop.counter = omega arith in
    sym c.loop.invariant ∙ fault_left (number_in c.args.memory.now) 4 c.loop.fds c.loop.next _ c.in-Err.errno some (sym c.in-Err.ensures)

pub loop-preserved : goal.loop-preserved
loop-preserved c =
    let next = next_left (number_in c.args.memory.now) 4 c.loop.fds c.in-Ok.fd c.loop.next c.args.count c.loop.counter c.loop-test.true (sym c.in-Ok.ensures) in
    rw c.in_ok-push-in-Ok.ensures.ok (sym next ∙ c.loop.invariant)

pub returns : goal.returns
returns c = sym (sym (none_left (number_in c.args.memory.now) 4 c.loop.fds c.loop.next (c.args.count - c.loop.counter) (omega arith)) ∙ c.loop.invariant)
