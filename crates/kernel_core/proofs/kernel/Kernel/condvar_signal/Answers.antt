use Rattle.std.proofs.Common.{Ok, refl, sym, ap, subst, ◌∙◌}
use Rattle.std.specs.FinMap.{insert}
use Rattle.abi_types.specs.declared.who.Who.{Who}
use Rattle.kernel_model.specs.Families.LockCalls.{signal_in}
use Rattle.kernel_model.specs.State.{ProcessState}
use Rattle.kernel_model.proofs.Locks.{KeepsEach}
use Rattle.kernel_parts.specs.Touching.{HasEach, told_entry}
use Rattle.kernel_core.specs.contracts.kernel.Kernel.{the_view}
use Rattle.kernel_core.proofs.OwnCalls.{own_call, own_call_done, own_call_kept, signalled_only, IsOwnCall}
use Rattle.kernel_invariant.proofs.HeldTold.{told_by, signal_keeps}
use Rattle.kernel_core.proofs.kernel.Kernel.condvar_signal.Goals as goal
use Rattle.kernel_core.proofs.kernel.Kernel.condvar_signal.Goals.{After-touch_told}

call : (c : After-touch_told) → IsOwnCall (the_view c.self.inside) c.args.self.now
    (record (the_view c.self.inside) { processes = insert c.self.inside.processes c.from.result c.signal-answer.new.self })
    c.args.who.now.pid c.get_mut-own.result.now c.signal-answer.new.self (signal_in c.args.who.now.pid c.args.condvar c.args.n)
call c =
    own_call (the_view c.self.inside) c.args.self.now _ c.args.who.now.pid c.from.result c.get_mut-own.result.now c.signal-answer.new.self _
    (c.from.ensures ∙ ap (λ (w : Who). w.pid) c.who.view_is) c.self.view_is c.get_mut-own.ensures.value
    refl
    (signalled_only c.args.who.now.pid c.args.condvar c.args.n c.get_mut-own.result.now)

pub invariant_of-self : goal.invariant_of-self
invariant_of-self d = record {
  kept =
      let c = (goal.at.invariant_of-self d).After-touch_told in
      own_call_kept (call c) (Ok c.signal-answer.result) c.self.inside.objects.counts (c.signal-answer.ensures.step c.args.who.now.pid) c.self.invariant.kept;
  waits =
      let c = (goal.at.invariant_of-self d).After-touch_told in
      let own : ProcessState = c.get_mut-own.result.now in
      told_by (the_view c.self.inside) c.self.inside.objects.counts c.from.result own c.signal-answer.new.self c.self.inside.waits c.touch_told.new.waits _ c.signal-answer.new.told
      c.self.invariant.kept c.get_mut-own.ensures.value
      (subst (λ (x : ProcessState). KeepsEach own.threads x.threads) (sym (c.signal-answer.ensures.step c.args.who.now.pid).1)
      (signal_keeps c.args.who.now.pid c.args.condvar c.args.n own)) c.signal-answer.ensures.told
      (subst (λ q. HasEach (told_entry q c.signal-answer.new.told) c.self.inside.waits c.touch_told.new.waits) (sym (c.from.ensures ∙ ap (λ (w : Who). w.pid) c.who.view_is)) c.touch_told.ensures) c.self.invariant.waits;
}

pub returns : goal.returns
returns d =
    let c = (goal.at.returns d).After-touch_told in
    own_call_done (call c) (Ok c.signal-answer.result) (c.signal-answer.ensures.step c.args.who.now.pid) c.self.invariant.kept.valid
