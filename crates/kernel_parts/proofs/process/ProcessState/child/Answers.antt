use Rattle.std.proofs.Common.{◌≡◌, is_some, sym, ap, subst, ◌∙◌, IsSome}
use Rattle.std.specs.FinMap.{get}
use Rattle.abi_types.specs.declared.thread.Thread.TheVariants.{Runnable}
use Rattle.guest_locks.specs.Queues.{AreFew}
use Rattle.kernel_model.specs.State.{ProcessState}
use Rattle.kernel_parts.proofs.FewThreads.{few_one}
use Rattle.kernel_parts.proofs.process.ProcessState.child.Goals as goal

pub invariant_of-result : goal.invariant_of-result
invariant_of-result c =
    let same : c.from.result ≡ c.args.tid = c.from.ensures ∙ c.tid.view_is in
    let there : IsSome (get c.self.inside.threads c.from.result) =
    ap is_some (ap (get c.self.inside.threads) same ∙ ap (λ (own : ProcessState). get own.threads c.args.tid) c.self.view_is) ∙ c.requires.there in
    subst AreFew (sym c.in_ok-single.ensures) (few_one c.from.result Runnable (c.self.invariant.low c.from.result there))
