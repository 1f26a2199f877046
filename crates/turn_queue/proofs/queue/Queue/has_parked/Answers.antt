use Rattle.std.proofs.Common.{sym, ◌∙◌}
use Rattle.turn_queue.proofs.Idle.{has_none_parked, has_some_parked}
use Rattle.turn_queue.proofs.queue.Queue.has_parked.Goals as goal

pub returns-clause-some : goal.returns-clause-some
returns-clause-some g c =
    rw (← c.self.view_is)
    (λ some. has_some_parked _ _ _ _ _ c.self.invariant c.first_from.result c.first_from.ensures (sym c.is_some.ensures ∙ some))

pub returns-clause-none : goal.returns-clause-none
returns-clause-none g c =
    rw (← c.self.view_is)
    (λ none. has_none_parked _ _ _ _ _ c.self.invariant c.first_from.result c.first_from.ensures (sym c.is_some.ensures ∙ none))
