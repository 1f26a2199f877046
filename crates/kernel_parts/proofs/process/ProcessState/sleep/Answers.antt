use Rattle.std.proofs.Common.{sym, subst}
use Rattle.guest_locks.specs.Queues.{AreFew}
use Rattle.kernel_model.proofs.Locks.{handed_keeps}
use Rattle.kernel_parts.proofs.FewThreads.{few_each}
use Rattle.kernel_parts.proofs.process.ProcessState.sleep.Goals as goal

pub invariant_of-self : goal.invariant_of-self
invariant_of-self c =
    subst AreFew (sym c.hand_on-left.ensures.threads)
    (few_each c.self.inside.threads _ (handed_keeps c.args.lock c.self.inside.threads) c.self.invariant)
