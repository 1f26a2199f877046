use Rattle.turn_queue.proofs.Idle.{queue_none}
use Rattle.turn_queue.proofs.Order.{ready_none}
use Rattle.turn_queue.proofs.queue.Queue.new.Goals as goal

pub invariant_of-result : goal.invariant_of-result
invariant_of-result g c = queue_none _ _ _ _ _ c.new-2.ensures c.new-3.ensures

pub returns : goal.returns
returns g c = ready_none _ _ c.new.ensures c.new-2.ensures
