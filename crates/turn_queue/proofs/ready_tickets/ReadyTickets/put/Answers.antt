use Rattle.std.proofs.Common.{sym, ap, subst, ◌∙◌, ℕ, Option}
use Rattle.std.specs.FinMap.{FinMap, insert}
use Rattle.std.specs.Ordering.{nat_cmp}
use Rattle.turn_queue.specs.Numbered.{IsNumbered, first_if_put, led_by, place_of}
use Rattle.turn_queue.proofs.Numbering.{first_fresh, numbered_put, numbered_same}
use Rattle.turn_queue.proofs.ready_tickets.ReadyTickets.put.Goals as goal

pub add-requires : goal.add-requires
add-requires g c =
    first_fresh _ _ _ _ _ _ c.self.invariant _ c.first_if_put-first.result
    (c.first_if_put-first.ensures ∙ ap (first_if_put g.T.Ticket.process c.pid-pid.result) (sym c.self.view_is))

pub invariant_of-self-in-Ok-None : goal.invariant_of-self-in-Ok-None
invariant_of-self-in-Ok-None g c =
    numbered_put _ _ _ _ _ _ c.self.invariant c.args.ticket _ _ _ _ c.first_if_put-first.result
    c.in-Some.ensures.1 c.in-Some.ensures.0 c.in-Ok-None.ensures.ok
    (c.in-Ok.ensures.places ∙ ap (λ (p : ℕ). insert c.self.inside.lines.places (place_of p c.self.inside.next) tt) c.pid-pid.ensures)
    (c.in-Ok.ensures.firsts ∙ ap (λ (p : ℕ). led_by p c.first_if_put-first.result c.self.inside.lines.firsts) c.pid-pid.ensures)
    (c.first_if_put-first.ensures ∙ ap (first_if_put g.T.Ticket.process c.pid-pid.result) (sym c.self.view_is)
    ∙ ap (λ (p : ℕ). first_if_put g.T.Ticket.process p record { tickets = c.self.inside.tickets; next = c.self.inside.next; busy = c.self.inside.busy }) c.pid-pid.ensures)

pub invariant_of-self-in-Err : goal.invariant_of-self-in-Err
invariant_of-self-in-Err g c =
    subst (λ (m : FinMap nat_cmp _). IsNumbered g.T.Ticket.process m c.self.inside.next c.take_off.new.self.places c.take_off.new.self.firsts c.self.inside.busy)
    (sym c.in-Err.ensures.err)
    (numbered_same _ _ _ _ _ _ c.self.invariant c.pid-pid.result _ _ _ _ _ c.in-Ok.ensures.places
    (c.in-Ok.ensures.firsts
    ∙ ap (λ (o : Option ℕ). led_by c.pid-pid.result o c.self.inside.lines.firsts)
    (c.first_if_put-first.ensures ∙ ap (first_if_put g.T.Ticket.process c.pid-pid.result) (sym c.self.view_is)))
    c.take_off.ensures.places c.take_off.ensures.firsts)
