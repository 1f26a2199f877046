use Rattle.std.proofs.Common.{◌≡◌, true, Some, sym, ap, subst, ◌∙◌, ℕ}
use Rattle.std.specs.FinMap.{contains_key, get, remove}
use Rattle.turn_queue.specs.Numbered.{Numbered, place_of}
use Rattle.turn_queue.proofs.Numbering.{numbered_miss, numbered_take}
use Rattle.turn_queue.proofs.ready_tickets.ReadyTickets.take.Goals as goal

pub invariant_of-self : goal.invariant_of-self
invariant_of-self g c = numbered_miss _ _ _ _ _ _ c.self.invariant c.args.number _ c.in_err-ticket.ensures.value c.remove.ensures.new

pub invariant_of-self-2 : goal.invariant_of-self-2
invariant_of-self-2 g c =
    numbered_take _ _ _ _ _ _ c.self.invariant c.args.number c.in_ok-ticket.ticket _ _ c.in_ok-ticket.ensures.value
    (subst (λ (q : Numbered _). (ticket : _) → get q.tickets c.args.number ≡ Some ticket → contains_key q.busy (g.T.Ticket.process ticket) ≡ true)
    (sym c.self.view_is) c.requires c.in_ok-ticket.ticket (sym c.in_ok-ticket.ensures.value))
    c.remove.ensures.new
    (c.remove-2.ensures ∙ ap (remove c.self.inside.lines.places) c.place_of.ensures
    ∙ ap (λ (p : ℕ). remove c.self.inside.lines.places (place_of p c.args.number)) c.pid.ensures)
