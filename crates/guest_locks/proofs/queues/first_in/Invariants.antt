use Rattle.std.proofs.Common.{◌-◌, ◌<◌, ◌≤◌, ◌^◌}
use Rattle.guest_locks.specs.Queues.{since_in}
use Rattle.guest_locks.proofs.Firsts.{IsFirstOf}
use Rattle.guest_locks.proofs.queues.first_in.Given as goal

-- what was found is the first of the threads that were looked at
abbrev pub invariant-loop-tid : goal.invariant-loop-tid
invariant-loop-tid l = IsFirstOf (since_in l.fn.queue) l.fn.threads (λ q. q < l.from) l.found × (l.from ≤ 2 ^ 30)

abbrev pub decreases-loop-tid : goal.decreases-loop-tid
decreases-loop-tid l = 2 ^ 30 - l.from
