use Rattle.std.proofs.Common.{◌≡◌, is_some, sym, ap, subst, ◌∙◌}
use Rattle.std.specs.FinMap.{get, insert}
use Rattle.abi_types.specs.declared.thread.Thread.TheVariants.{Runnable}
use Rattle.kernel_model.specs.Waits.{thread_set}
use Rattle.kernel_model.proofs.Tests.{none_of}
use Rattle.kernel_parts.specs.contracts.process.ProcessState.{the_view}
use Rattle.guest_locks.specs.Queues.{AreFew}
use Rattle.kernel_parts.proofs.FewThreads.{few_again}
use Rattle.kernel_parts.proofs.Threads.{set_is, set_none}
use Rattle.kernel_parts.proofs.process.ProcessState.resume.Goals as goal

pub returns-then-not-contains-clause-runs : goal.returns-then-not-contains-clause-runs
returns-then-not-contains-clause-runs c =
    let same : c.from-t.result ≡ c.args.tid = c.from-t.ensures ∙ c.tid.view_is in
    sym c.self.view_is
    ∙ sym (set_none (the_view c.self.inside) c.args.tid Runnable (ap (get c.self.inside.threads) (sym same)
    ∙ none_of (get c.self.inside.threads c.from-t.result) (sym c.contains.ensures ∙ c.if-not-contains.true)))
    ∙ ap (thread_set c.args.tid Runnable) c.self.view_is

pub returns-clause-runs : goal.returns-clause-runs
returns-clause-runs c =
    let same : c.from-t.result ≡ c.args.tid = c.from-t.ensures ∙ c.tid.view_is in
    let threads : c.replace.new.self ≡ insert c.self.inside.threads c.args.tid Runnable =
    c.replace.ensures.new ∙ ap (λ t. insert c.self.inside.threads t Runnable) same in
    (λ i. record (the_view c.self.inside) { threads = threads i })
    ∙ sym (set_is (the_view c.self.inside) c.args.tid Runnable c.replace.result (ap (get c.self.inside.threads) (sym same) ∙ sym c.replace.ensures.old))
    ∙ ap (thread_set c.args.tid Runnable) c.self.view_is

pub invariant_of-self : goal.invariant_of-self
invariant_of-self c =
    subst AreFew (sym c.replace.ensures.new)
    (few_again c.self.inside.threads c.from-t.result Runnable (sym (ap is_some c.replace.ensures.old)) c.self.invariant)
