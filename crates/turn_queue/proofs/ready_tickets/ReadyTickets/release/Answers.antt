use Rattle.std.proofs.Common.{sym, ap, subst, ◌∙◌}
use Rattle.std.specs.FinMap.{remove}
use Rattle.turn_queue.specs.Numbered.{IsNumbered, Numbered, Numbers, first_of}
use Rattle.turn_queue.proofs.Numbering.{numbered_release}
use Rattle.turn_queue.proofs.ready_tickets.ReadyTickets.release.Goals as goal

pub invariant_of-self-2 : goal.invariant_of-self-2
invariant_of-self-2 g c =
    subst (λ (b : Numbers). IsNumbered g.T.Ticket.process c.self.inside.tickets c.self.inside.next b c.lead.new.self.firsts c.remove.new.self)
    (sym c.lead.ensures.places)
    (numbered_release _ _ _ _ _ _ c.self.invariant c.args.pid c.first_of-first.result _ _
    (c.first_of-first.ensures ∙ ap (λ (q : Numbered _). first_of g.T.Ticket.process c.args.pid q.tickets) (sym c.self.view_is))
    (c.remove.ensures.new ∙ ap (remove c.self.inside.busy) c.key_of.ensures) c.in_ok-lead.ensures.ok)
