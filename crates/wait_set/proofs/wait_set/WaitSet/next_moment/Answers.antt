use Rattle.std.proofs.Common.{ap, ◌∙◌}
use Rattle.wait_set.specs.declared.spot.Spot.TheVariants.{Moment}
use Rattle.wait_set.specs.Waits.{WaitMap, is_awaited}
use Rattle.wait_set.proofs.Tying.{next_same, queue_awaited}
use Rattle.wait_set.proofs.wait_set.WaitSet.next_moment.Goals as goal

pub returns : goal.returns
returns c =
    next_same _ (λ n. is_awaited c.args.self.now n) c.args.after c.next_moment.result
    (λ n. queue_awaited c.self.inside.queues.moments c.self.inside.threads n c.next_moment.ensures.some (λ t. c.self.invariant.queued (Moment n) t)
    ∙ ap (λ (w : WaitMap). is_awaited w n) c.self.view_is)
    c.next_moment.ensures.next
