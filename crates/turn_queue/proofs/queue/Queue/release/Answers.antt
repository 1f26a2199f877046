use Rattle.std.proofs.Common.{sym, ap, subst, ◌∙◌}
use Rattle.std.specs.FinMap.{remove}
use Rattle.turn_queue.specs.Numbered.{Numbered, Numbers}
use Rattle.turn_queue.specs.Tickets.{IsQueue}
use Rattle.turn_queue.proofs.Idle.{idle_same, nobody_has, not_idle, queue_release}
use Rattle.turn_queue.proofs.queue.Queue.release.Goals as goal

pub returns-then-not-is_busy-clause-ok : goal.returns-then-not-is_busy-clause-ok
returns-then-not-is_busy-clause-ok g c = rw (← c.self.view_is) (nobody_has _ c.args.pid (sym c.is_busy.ensures ∙ c.if-not-is_busy.true))

pub invariant_of-self-in-Ok : goal.invariant_of-self-in-Ok
invariant_of-self-in-Ok g c =
    queue_release _ _ _ _ _ c.self.invariant c.args.pid _ _ c.has_beside-enters.result (ap (λ (q : Numbered _). q.busy) c.in-Ok.ensures.ok)
    c.has_beside-enters.ensures c.in_ok-enter.ensures.ok

pub invariant_of-self-in-Err : goal.invariant_of-self-in-Err
invariant_of-self-in-Err g c =
    subst (λ (q : Numbered _). IsQueue g.T.Ticket.process g.T.Ticket.thread c.self.inside.parked q.busy c.remove.new.self) (sym c.in-Err.ensures.err)
    (subst (λ (b : Numbers). IsQueue g.T.Ticket.process g.T.Ticket.thread c.self.inside.parked c.self.inside.ready.busy b)
    (sym (idle_same c.self.inside.idle _ _ c.args.pid c.has_beside-enters.result
    (not_idle _ _ _ _ _ c.self.invariant c.args.pid (sym c.is_busy.ensures ∙ c.if-not-is_busy.false))
    c.in_ok-enter.ensures.ok (c.remove.ensures.new ∙ ap (remove c.enter.new.idle) c.key_of.ensures)))
    c.self.invariant)
