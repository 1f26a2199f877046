use Rattle.std.proofs.Common.{sym, subst}
use Rattle.guest_locks.specs.Queues.{AreFew}
use Rattle.kernel_parts.proofs.FewThreads.{few_removed}
use Rattle.kernel_parts.proofs.process.ProcessState.end_thread.Goals as goal

pub invariant_of-self : goal.invariant_of-self
invariant_of-self c = subst AreFew (sym c.remove.ensures.new) (few_removed c.self.inside.threads c.from.result c.self.invariant)
