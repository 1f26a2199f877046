use Rattle.std.proofs.Common.{◌≡◌, ◌<◌, ◌^◌, false, Some, sym, ap, subst, ◌∙◌}
use Rattle.std.specs.FinMap.{get, insert, remove}
use Rattle.kernel_model.specs.Families.ProcessCalls.{left_updates}
use Rattle.kernel_model.specs.OwnChanges.{without_thread}
use Rattle.kernel_model.specs.Release.{release}
use Rattle.kernel_model.specs.State.{State, ProcessState, put_all}
use Rattle.kernel_parts.specs.Keys.{key}
use Rattle.readiness_laws.specs.Watched.{looked_at}
use Rattle.kernel_invariant.specs.Held.{AreHeld, IsKept}
use Rattle.kernel_core.specs.Threads.{is_last_in}
use Rattle.kernel_core.specs.contracts.kernel.Kernel.{the_view}
use Rattle.kernel_invariant.proofs.HeldEnds.{thread_end_is_held}
use Rattle.kernel_invariant.proofs.Leaving.{with_process}
use Rattle.kernel_core.proofs.OwnCalls.{left_alone, left_last, own_kept, own_released, without_only}
use Rattle.kernel_core.proofs.kernel.Kernel.end_thread.Goals as goal
use Rattle.kernel_core.proofs.kernel.Kernel.end_thread.Goals.{After-end_thread}

-- ---- the last thread

pub returns-then-is_last_thread : goal.returns-then-is_last_thread
returns-then-is_last_thread c =
    let S = c.args.self.now in
    c.end_process.ensures
    ∙ ap (λ us. release (put_all us S))
    (sym (left_last c.args.pid c.args.tid (get S.processes c.args.pid) (sym c.is_last_thread.ensures ∙ c.if-is_last_thread.true)))

-- ---- another one

same : (c : After-end_thread) → c.from.result ≡ c.args.pid
same c = c.from.ensures ∙ c.pid.view_is

there : (c : After-end_thread) → get c.self.inside.processes c.args.pid ≡ Some c.get_mut-own.result.now
there c = ap (get c.self.inside.processes) (sym (same c)) ∙ sym c.get_mut-own.ensures.value

-- the state without that thread
put : (c : After-end_thread) → record (the_view c.self.inside) { processes = insert c.self.inside.processes c.from.result c.end_thread.new.self }
    ≡ with_process (the_view c.self.inside) c.args.pid (without_thread c.args.tid c.get_mut-own.result.now)
put c = λ i. record (the_view c.self.inside) { processes = insert c.self.inside.processes (same c i) (c.end_thread.ensures i) }

pub invariant_of-self : goal.invariant_of-self
invariant_of-self d = record {
  kept =
      let c = (goal.at.invariant_of-self d).After-end_thread in
      let own : ProcessState = c.get_mut-own.result.now in
      subst (λ (S : State). IsKept S c.self.inside.objects.counts) (sym (put c))
      (own_kept (the_view c.self.inside) c.args.pid own (there c) _ (without_only c.args.pid c.args.tid own) c.self.inside.objects.counts c.self.invariant.kept);
  waits =
      let c = (goal.at.invariant_of-self d).After-end_thread in
      let own : ProcessState = c.get_mut-own.result.now in
      subst (λ (S : State). AreHeld (looked_at S) d.end_entry.new.waits) (sym (put c))
      (subst (λ W. AreHeld (looked_at (with_process (the_view c.self.inside) c.args.pid (without_thread c.args.tid own))) W)
      (sym (d.end_entry.ensures.gone ∙ ap (λ t. remove c.self.inside.waits (key c.args.pid t)) d.tid.view_is))
      (thread_end_is_held (the_view c.self.inside) c.args.pid c.args.tid own c.self.inside.waits (subst (λ t. t < 2 ^ 32) d.tid.view_is d.end_entry.ensures.small) (there c)
      c.self.invariant.waits));
}

pub returns-else-is_last_thread : goal.returns-else-is_last_thread
returns-else-is_last_thread d =
    let c = (goal.at.returns-else-is_last_thread d).After-end_thread in
    let own : ProcessState = c.get_mut-own.result.now in
    let S = the_view c.self.inside in
    let apart : is_last_in c.args.tid (Some own) ≡ false =
    ap (is_last_in c.args.tid) (sym (ap (λ (X : State). get X.processes c.args.pid) (sym c.self.view_is) ∙ there c))
    ∙ sym c.is_last_thread.ensures ∙ c.if-is_last_thread.false in
    let left : left_updates c.args.pid c.args.tid (get S.processes c.args.pid) ≡ left_updates c.args.pid c.args.tid (Some own) =
    ap (left_updates c.args.pid c.args.tid) (there c) in
    put c ∙ own_released S c.args.pid own (there c) _ (without_only c.args.pid c.args.tid own) c.self.invariant.kept.valid
    ∙ ap (λ us. release (put_all us S)) (sym (left ∙ left_alone c.args.pid c.args.tid own apart))
    ∙ ap (λ (X : State). release (put_all (left_updates c.args.pid c.args.tid (get X.processes c.args.pid)) X)) c.self.view_is
