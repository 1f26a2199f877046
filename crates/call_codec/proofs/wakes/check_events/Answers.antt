use Rattle.std.proofs.Common.{◌*◌, ◌≤◌, ◌<◌, ◌^◌, sym, arith}
use Rattle.call_codec.proofs.Events.{too_many}
use Rattle.call_codec.proofs.wakes.check_events.Goals as goal

pub returns-in-None : goal.returns-in-None
returns-in-None c =
    let small : c.args.at < 2 ^ 64 = omega arith in
    let many : 2 ^ 64 ≤ 32 * c.args.count = omega (arith, c.in-None.ensures) in
    sym (too_many c.args.memory.now c.args.at (32 * c.args.count) c.keeps_limits.ensures small many)
