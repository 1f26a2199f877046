use Rattle.std.proofs.Common.{sym, ◌∙◌}
use Rattle.turn_queue.proofs.Numbering.{first_at, first_at_none}
use Rattle.turn_queue.proofs.ready_tickets.ReadyTickets.first_of.Goals as goal

pub returns-in_default : goal.returns-in_default
returns-in_default g c =
    rw (← c.self.view_is) (sym (first_at_none _ _ _ _ _ _ c.self.invariant c.args.pid c.place_of.result c.place_of.ensures (sym c.in_default.ensures)))

pub returns : goal.returns
returns g c =
    rw (← c.self.view_is)
    (c.number_beside.ensures
    ∙ first_at _ _ _ _ _ _ c.self.invariant c.args.pid c.place_of.result c.in-Some.place c.place_of.ensures (sym c.in-Some.ensures))
