use Rattle.turn_queue.proofs.Numbering.{first_led}
use Rattle.turn_queue.proofs.ready_tickets.ReadyTickets.first_free.Goals as goal

pub returns : goal.returns
returns g c = rw (← c.self.view_is) (first_led _ _ _ _ _ _ c.self.invariant c.first_from.result c.first_from.ensures)
