use Rattle.std.proofs.Common.{sym, ap, subst, ◌∙◌}
use Rattle.turn_queue.specs.Numbered.{IsNumbered, Numbered, Numbers, first_of}
use Rattle.turn_queue.proofs.Numbering.{numbered_hold}
use Rattle.turn_queue.proofs.ready_tickets.ReadyTickets.hold.Goals as goal

pub invariant_of-self-2 : goal.invariant_of-self-2
invariant_of-self-2 g c =
    subst (λ (b : Numbers). IsNumbered g.T.Ticket.process c.self.inside.tickets c.self.inside.next b c.lead_no_more.new.self.firsts c.note.new.pids)
    (sym c.lead_no_more.ensures.places)
    (numbered_hold _ _ _ _ _ _ c.self.invariant c.args.pid c.first_of-first.result _ _
    (c.first_of-first.ensures ∙ ap (λ (q : Numbered _). first_of g.T.Ticket.process c.args.pid q.tickets) (sym c.self.view_is))
    c.in_ok-note.ensures.ok c.lead_no_more.ensures.firsts)
