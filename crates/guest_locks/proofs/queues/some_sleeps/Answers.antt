use Rattle.std.proofs.Common.{is_some, ap, ◌∙◌, rules}
use Rattle.kernel_model.specs.Families.Locks.{sleeps_at}
use Rattle.guest_locks.proofs.queues.some_sleeps.Goals as goal

pub returns : goal.returns
returns c = c.is_some.ensures ∙ ap is_some (c.first_where.ensures (λ thread. is_some (sleeps_at c.args.condvar thread)) (λ v b h. search rules))
