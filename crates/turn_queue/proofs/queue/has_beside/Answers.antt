use Rattle.std.proofs.Common.{ℕ, ◌==◌, ◌/◌, ◌^◌, ap, ◌∙◌}
use Rattle.turn_queue.proofs.Idle.{none_beside, some_beside}
use Rattle.turn_queue.proofs.queue.has_beside.Goals as goal

pub returns-in-Some : goal.returns-in-Some
returns-in-Some g c =
    ap (λ (k : ℕ). c.in-Some.number / 2 ^ 32 == k) c.key_of.ensures
    ∙ some_beside _ c.args.pid c.number_of.result c.number_of.ensures c.in-Some.number c.in-Some.ensures

pub returns-in-None : goal.returns-in-None
returns-in-None g c = none_beside _ c.args.pid c.number_of.result c.number_of.ensures c.in-None.ensures
