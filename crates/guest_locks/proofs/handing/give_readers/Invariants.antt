use Rattle.std.specs.Prelude.{◌≡◌, ◌+◌, if◌then◌else◌}
use Rattle.maps.specs.Maps.{total}
use Rattle.guest_locks.specs.Handing.{given_before, reads_before}
use Rattle.guest_locks.specs.Told.{TellsOf}
use Rattle.guest_locks.proofs.handing.give_readers.Given as goal

-- with those that are left all are given the lock, and counted; and those that were given it are told of
abbrev pub invariant-loop-tid : goal.invariant-loop-tid
invariant-loop-tid l =
    (given_before l.lock l.limit l.threads ≡ given_before l.fn.lock l.limit l.fn.threads)
    × (l.count + total (λ thread. if reads_before l.fn.lock l.limit thread then 1 else 0) l.threads ≡ total (λ thread. if reads_before l.fn.lock l.limit thread then 1 else 0) l.fn.threads)
    × TellsOf l.fn.threads l.threads l.fn.told l.told

abbrev pub decreases-loop-tid : goal.decreases-loop-tid
decreases-loop-tid l = total (λ thread. if reads_before l.fn.lock l.limit thread then 1 else 0) l.threads
