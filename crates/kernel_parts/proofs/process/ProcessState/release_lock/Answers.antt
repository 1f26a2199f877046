use Rattle.std.proofs.Common.{sym, subst}
use Rattle.guest_locks.specs.Queues.{AreFew}
use Rattle.kernel_model.specs.Families.Locks.{release_of}
use Rattle.kernel_model.proofs.Locks.{released_keeps}
use Rattle.kernel_parts.proofs.FewThreads.{few_each}
use Rattle.kernel_parts.proofs.process.ProcessState.release_lock.Goals as goal

pub invariant_of-self : goal.invariant_of-self
invariant_of-self c =
    subst AreFew (sym c.unlock.ensures.threads)
    (few_each c.self.inside.threads _ (released_keeps (release_of c.args.tid c.args.word) c.args.lock c.self.inside.threads) c.self.invariant)
