use Rattle.std.proofs.Common.{sym, subst}
use Rattle.wait_set.specs.Queued.{NoneEmpty}
use Rattle.wait_set.proofs.Queueing.{none_empty}
use Rattle.wait_set.proofs.queues.Queues.new.Goals as goal

pub invariant_of-result : goal.invariant_of-result
invariant_of-result c = subst NoneEmpty (sym c.new.ensures) none_empty
