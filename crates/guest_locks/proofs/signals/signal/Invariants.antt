use Rattle.std.proofs.Common.{◌≡◌}
use Rattle.kernel_model.specs.Families.Locks.{signalled}
use Rattle.guest_locks.specs.Queues.{AreFew}
use Rattle.guest_locks.specs.Told.{TellsOf}
use Rattle.guest_locks.proofs.signals.signal.Given as goal

-- with those that are left they are all signalled, and those that were signalled are told of
abbrev pub invariant-loop-tid : goal.invariant-loop-tid
invariant-loop-tid l =
    (signalled l.left l.condvar l.threads ≡ signalled l.n l.fn.condvar l.fn.threads) × AreFew l.threads × TellsOf l.fn.threads l.threads l.fn.told l.told

abbrev pub decreases-loop-tid : goal.decreases-loop-tid
decreases-loop-tid l = l.left
