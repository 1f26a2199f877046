use Rattle.std.proofs.Common.{Option, None, Some, subst, ap, ◌∙◌}
use Rattle.std.specs.FinMap.{remove}
use Rattle.turn_queue.specs.Numbered.{TakesFirst}
use Rattle.turn_queue.proofs.Idle.{queue_hold}
use Rattle.turn_queue.proofs.Order.{may_take, taken_busy}
use Rattle.turn_queue.proofs.queue.Queue.take_free.Goals as goal

pub invariant_of-self : goal.invariant_of-self
invariant_of-self g c =
    queue_hold _ _ _ _ _ c.self.invariant (g.T.Ticket.process c.in-Ok-Some.ticket) _ _
    (taken_busy g.T.Ticket.process c.in-Ok-Some.ticket _ _ c.in-Ok-Some.field-0 c.in-Ok-Some.field-0-is c.in-Ok-Some.ensures.ok)
    (c.remove.ensures.new ∙ ap (remove c.self.inside.idle) (c.key_of.ensures ∙ c.pid.ensures))

pub returns-in-Ok-Some-clause-ok : goal.returns-in-Ok-Some-clause-ok
returns-in-Ok-Some-clause-ok g c =
    rw (← c.self.view_is)
    (may_take g.T.Ticket.process c.self.inside.parked (Some c.in-Ok-Some.ticket) c.self.inside.ready c.take_free.new.self
    (subst (λ (o : Option _). TakesFirst g.T.Ticket.process o c.self.inside.ready c.take_free.new.self) c.in-Ok-Some.field-0-is c.in-Ok-Some.ensures.ok))

pub returns-in-Ok-None-clause-ok : goal.returns-in-Ok-None-clause-ok
returns-in-Ok-None-clause-ok g c =
    rw (← c.self.view_is)
    (may_take g.T.Ticket.process c.self.inside.parked None c.self.inside.ready c.take_free.new.self
    (subst (λ (o : Option _). TakesFirst g.T.Ticket.process o c.self.inside.ready c.take_free.new.self) c.in-Ok-None.field-0-is c.in-Ok-None.ensures.ok))
