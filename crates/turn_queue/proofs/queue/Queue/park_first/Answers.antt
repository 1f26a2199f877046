use Rattle.std.proofs.Common.{sym, ap, subst, ◌∙◌}
use Rattle.std.specs.FinMap.{FinMap, get}
use Rattle.std.specs.Ordering.{nat_cmp}
use Rattle.turn_queue.specs.Numbered.{Numbers}
use Rattle.turn_queue.specs.Tickets.{IsQueue, Tickets}
use Rattle.turn_queue.proofs.Idle.{idle_back, queue_park}
use Rattle.turn_queue.proofs.queue.Queue.park_first.Goals as goal

pub invariant_of-self-in-Ok-None : goal.invariant_of-self-in-Ok-None
invariant_of-self-in-Ok-None g c =
    queue_park _ _ _ _ _ c.self.invariant c.args.ticket c.args.number
    (ap (λ (q : Tickets _). get q.parked c.args.number) c.self.view_is ∙ c.requires.none) c.requires.number
    _ _ c.args.pid c.is_missing-enters.result c.requires.pid c.in-Ok-None.ensures.ok c.in-Ok.ensures.ok c.is_missing-enters.ensures

pub invariant_of-self-in-Err : goal.invariant_of-self-in-Err
invariant_of-self-in-Err g c =
    subst (λ (m : FinMap nat_cmp _). IsQueue g.T.Ticket.process g.T.Ticket.thread m c.self.inside.ready.busy c.leave.new.idle) (sym c.in-Err.ensures.err)
    (subst (λ (b : Numbers). IsQueue g.T.Ticket.process g.T.Ticket.thread c.self.inside.parked c.self.inside.ready.busy b)
    (sym (idle_back c.self.inside.idle _ _ c.args.pid _ c.is_missing-enters.result c.is_missing-enters.ensures c.in-Ok.ensures.ok c.leave.ensures))
    c.self.invariant)
