use Rattle.turn_queue.proofs.Numbering.{numbered_none}
use Rattle.turn_queue.proofs.ready_tickets.ReadyTickets.new.Goals as goal

pub invariant_of-result : goal.invariant_of-result
invariant_of-result g c = numbered_none _ _ _ _ _ c.new-3.ensures c.new.ensures c.new-2.ensures
