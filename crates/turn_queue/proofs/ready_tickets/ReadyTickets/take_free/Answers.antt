use Rattle.std.proofs.Common.{refl}
use Rattle.turn_queue.proofs.Numbering.{busy_then, has_pid}
use Rattle.turn_queue.proofs.ready_tickets.ReadyTickets.take_free.Goals as goal

pub returns-in_default-pid_at-clause-ok : goal.returns-in_default-pid_at-clause-ok
returns-in_default-pid_at-clause-ok g c = (has_pid _ c.args.self.now c.in-Some.number c.in-Some.ensures c.in_default-pid_at.ensures, refl)

pub take-requires : goal.take-requires
take-requires g c = busy_then _ c.args.self.now _ _ c.in-Some.number c.in_ok-hold.ensures.ok c.in-Some-pid_at.ensures
