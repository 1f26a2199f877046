use Rattle.std.proofs.Common.{is_some, ap, ◌∙◌, rules}
use Rattle.kernel_model.specs.Families.Locks.{waits_for}
use Rattle.guest_locks.proofs.queues.some_waits.Goals as goal

pub returns : goal.returns
returns c = c.is_some.ensures ∙ ap is_some (c.first_where.ensures (λ thread. is_some (waits_for c.args.lock thread)) (λ v b h. search rules))
