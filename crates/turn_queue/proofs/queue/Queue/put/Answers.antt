use Rattle.std.proofs.lemmas.Result.{on_ok_weaker}
use Rattle.turn_queue.proofs.Order.{ready_put}
use Rattle.turn_queue.proofs.queue.Queue.put.Goals as goal

pub returns-clause-ok : goal.returns-clause-ok
returns-clause-ok g c =
    rw (← c.self.view_is)
    (on_ok_weaker c.put.result (λ new. ready_put g.T.Ticket.process c.self.inside.parked c.args.ticket _ _ c.put.ensures.last new) c.put.ensures.ok)
