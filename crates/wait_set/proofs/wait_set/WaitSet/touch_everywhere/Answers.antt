use Rattle.std.proofs.Common.{Some, arith}
use Rattle.wait_set.specs.Waits.{is_everywhere, so_changed, touched}
use Rattle.wait_set.proofs.Walking.{walk_step, walk_end, remaining_step, next_before, entry_at}
use Rattle.wait_set.proofs.wait_set.WaitSet.touch_everywhere.Goals as goal

pub loop-thread-smaller : goal.loop-thread-smaller
loop-thread-smaller c =
    let f = so_changed is_everywhere (λ _ s. touched s) in
    let next = next_before is_everywhere f c.loop-thread.after (Some c.in-Some.thread) c.args.self.now c.loop-thread.self c.loop-thread.invariant c.in-Some.ensures in
    let step = remaining_step is_everywhere c.args.self.now c.loop-thread.after c.in-Some.thread next in
    omega (arith, step)

pub loop-thread-preserved : goal.loop-thread-preserved
loop-thread-preserved c =
    let entry = entry_at is_everywhere c.loop-thread.self c.in-Some.thread c.in-Some.ensures.1 in
    walk_step is_everywhere (λ _ s. touched s) c.loop-thread.after c.args.self.now c.loop-thread.self c.leave.new.self
    c.in-Some.thread entry.0 c.loop-thread.invariant c.in-Some.ensures entry.1 (c.leave.ensures entry.0 entry.1)

pub returns : goal.returns
returns c =
    walk_end is_everywhere (λ _ s. touched s) c.loop-thread.after c.args.self.now c.loop-thread.self c.loop-thread.invariant c.in_default.ensures
