use Rattle.std.proofs.Common.{◌∙◌}
use Rattle.turn_queue.proofs.Order.{any_free}
use Rattle.turn_queue.proofs.queue.Queue.has_free.Goals as goal

pub returns : goal.returns
returns g c = rw (← c.self.view_is) (c.is_some.ensures ∙ any_free g.T.Ticket.process c.self.inside.ready c.first_free.result c.first_free.ensures)
