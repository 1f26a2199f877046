use Rattle.std.proofs.Common.{sym, subst}
use Rattle.guest_locks.specs.Queues.{AreFew}
use Rattle.kernel_parts.proofs.FewThreads.{few_kept}
use Rattle.kernel_parts.proofs.process.ProcessState.begin_anew.Goals as goal

pub invariant_of-self : goal.invariant_of-self
invariant_of-self c = subst AreFew (sym c.keep_only.ensures) (few_kept c.self.inside.threads _ c.self.invariant)
