use Rattle.std.proofs.Common.{sym, rules}
use Rattle.turn_queue.proofs.Idle.{is_ticket_of, queue_miss, queue_take}
use Rattle.turn_queue.proofs.queue.Queue.take_parked.Goals as goal

pub invariant_of-self : goal.invariant_of-self
invariant_of-self g c = queue_miss _ _ _ _ _ c.self.invariant c.number_of.result _ c.in_err-ticket.ensures.value c.remove.ensures.new

pub invariant_of-self-2 : goal.invariant_of-self-2
invariant_of-self-2 g c =
    let whose = is_ticket_of _ _ _ _ _ c.self.invariant c.number_of.result c.args.pid c.args.tid c.in_ok-ticket.ticket c.in_ok-ticket.ensures.value
    c.number_of.ensures (search rules) in
    queue_take _ _ _ _ _ c.self.invariant c.number_of.result c.args.pid c.in_ok-ticket.ticket (sym c.in_ok-ticket.ensures.value) whose.0
    _ _ c.has_beside-leaves.result c.remove.ensures.new c.has_beside-leaves.ensures c.leave.ensures

pub returns-clause-whose : goal.returns-clause-whose
returns-clause-whose g c =
    is_ticket_of _ _ _ _ _ c.self.invariant c.number_of.result c.args.pid c.args.tid c.in_ok-ticket.ticket c.in_ok-ticket.ensures.value
    c.number_of.ensures (search rules)
