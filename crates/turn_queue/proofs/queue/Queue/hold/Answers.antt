use Rattle.std.proofs.Common.{ap, ◌∙◌}
use Rattle.std.specs.FinMap.{remove}
use Rattle.turn_queue.specs.Numbered.{Numbered}
use Rattle.turn_queue.proofs.Idle.{queue_hold}
use Rattle.turn_queue.proofs.queue.Queue.hold.Goals as goal

pub invariant_of-self-2 : goal.invariant_of-self-2
invariant_of-self-2 g c =
    queue_hold _ _ _ _ _ c.self.invariant c.args.pid _ _ (ap (λ (q : Numbered _). q.busy) c.in_ok-hold.ensures.ok)
    (c.remove.ensures.new ∙ ap (remove c.self.inside.idle) c.key_of.ensures)
