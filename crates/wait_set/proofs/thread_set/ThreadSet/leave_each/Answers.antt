use Rattle.std.proofs.Common.{ap, subst}
use Rattle.std.specs.FinMap.{from_entries}
use Rattle.wait_set.specs.Queued.{QueueSet}
use Rattle.wait_set.proofs.Walks.{Leaving, leaving_step, leaving_last, next_there}
use Rattle.wait_set.proofs.thread_set.ThreadSet.leave_each.Goals as goal

pub leave-requires-clause-there : goal.leave-requires-clause-there
leave-requires-clause-there c =
    next_there (from_entries c.next.new.self) c.args.self.now c.in-Some.thread.now c.args.threads.now c.loop-thread.threads c.loop-thread.left
    (subst (λ (r : QueueSet). Leaving r c.args.self.now c.args.threads.now c.loop-thread.threads c.loop-thread.left) (ap from_entries c.in-Some.ensures.steps) c.loop-thread.invariant.2)

pub loop-thread-preserved : goal.loop-thread-preserved
loop-thread-preserved c = (
  tt,
  tt,
  leaving_step (from_entries c.next.new.self) c.args.self.now c.in-Some.thread.now c.args.threads.now c.loop-thread.threads c.leave.new.threads c.loop-thread.left c.leave.new.left
      (subst (λ (r : QueueSet). Leaving r c.args.self.now c.args.threads.now c.loop-thread.threads c.loop-thread.left) (ap from_entries c.in-Some.ensures.steps) c.loop-thread.invariant.2)
      c.leave.ensures.marks c.leave.ensures.set,
)

pub returns-clause-marks : goal.returns-clause-marks
returns-clause-marks c =
    leaving_last c.args.self.now c.args.threads.now c.loop-thread.threads c.loop-thread.left
    (subst (λ (r : QueueSet). Leaving r c.args.self.now c.args.threads.now c.loop-thread.threads c.loop-thread.left) (ap from_entries c.in-None.ensures.steps.0) c.loop-thread.invariant.2)
