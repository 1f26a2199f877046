use Rattle.std.proofs.Common.{sym, subst, arith}
use Rattle.abi_types.specs.declared.thread.Thread.TheVariants.{Runnable}
use Rattle.guest_locks.specs.Queues.{AreFew}
use Rattle.kernel_parts.proofs.FewThreads.{few_one}
use Rattle.kernel_parts.proofs.process.ProcessState.first.Goals as goal

pub invariant_of-result : goal.invariant_of-result
invariant_of-result c = subst AreFew (sym c.in_ok-single.ensures) (few_one 1 Runnable (omega arith))
