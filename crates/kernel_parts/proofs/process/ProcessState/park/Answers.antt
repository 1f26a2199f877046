use Rattle.std.proofs.Common.{◌≡◌, is_some, sym, ap, subst, ◌∙◌}
use Rattle.std.specs.FinMap.{get, insert}
use Rattle.abi_types.specs.declared.thread.Thread.{Thread}
use Rattle.abi_types.specs.declared.thread.Thread.TheVariants.{Waits}
use Rattle.abi_types.specs.declared.who.Who.{Who}
use Rattle.guest_locks.specs.Queues.{AreFew}
use Rattle.kernel_model.specs.Waits.{deadline_at, stage_after, thread_set, waiting}
use Rattle.kernel_parts.specs.contracts.process.ProcessState.{the_view}
use Rattle.kernel_parts.proofs.FewThreads.{few_again}
use Rattle.kernel_parts.proofs.Threads.{set_is}
use Rattle.kernel_parts.proofs.process.ProcessState.park.Goals as goal

pub returns : goal.returns
returns c =
    let same : c.from.result ≡ c.args.who.now.tid = c.from.ensures ∙ ap (λ (w : Who). w.tid) c.who.view_is in
    let thread : Thread = waiting c.args.constants.now c.args.call c.args.who.now c.args.now in
    let stage : c.stage_after-stage.result ≡ stage_after c.args.call c.args.who.now.stage c.args.now =
    c.stage_after-stage.ensures ∙ ap (λ (w : Who). stage_after c.args.call w.stage c.args.now) c.who.view_is in
    let until = c.deadline_at-until.ensures ∙ (λ i. deadline_at c.args.constants.now c.args.call (c.who.view_is i).since (stage i)) in
    let threads : c.replace.new.self ≡ insert c.self.inside.threads c.args.who.now.tid thread =
    c.replace.ensures.new ∙ (λ i. insert c.self.inside.threads (same i) (Waits c.args.call (c.who.view_is i).since (until i) (stage i))) in
    (λ i. record (the_view c.self.inside) { threads = threads i })
    ∙ sym (set_is (the_view c.self.inside) c.args.who.now.tid thread c.replace.result (ap (get c.self.inside.threads) (sym same) ∙ sym c.replace.ensures.old))
    ∙ ap (thread_set c.args.who.now.tid thread) c.self.view_is

pub invariant_of-self : goal.invariant_of-self
invariant_of-self c =
    subst AreFew (sym c.replace.ensures.new)
    (few_again c.self.inside.threads c.from.result _ (sym (ap is_some c.replace.ensures.old)) c.self.invariant)
