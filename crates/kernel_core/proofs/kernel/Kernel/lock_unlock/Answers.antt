use Rattle.std.proofs.Common.{true, Ok, refl, sym, ap, subst, ◌∙◌}
use Rattle.std.specs.FinMap.{get, insert}
use Rattle.abi_types.specs.declared.who.Who.{Who}
use Rattle.kernel_model.specs.Families.LockCalls.{unlock_in}
use Rattle.kernel_model.specs.Done.{IsDone}
use Rattle.kernel_model.specs.State.{ProcessState}
use Rattle.kernel_model.proofs.Locks.{KeepsEach}
use Rattle.kernel_parts.specs.Touching.{HasEach, told_entry}
use Rattle.kernel_core.specs.contracts.kernel.Kernel.{the_view}
use Rattle.kernel_core.proofs.OwnCalls.{own_call, own_call_done, own_call_kept, unlocked_only, IsOwnCall}
use Rattle.kernel_invariant.proofs.HeldTold.{told_by, unlock_keeps}
use Rattle.kernel_core.proofs.kernel.Kernel.lock_unlock.Goals as goal
use Rattle.kernel_core.proofs.kernel.Kernel.lock_unlock.Goals.{After-touch_told}

call : (c : After-touch_told) → IsOwnCall (the_view c.self.inside) c.args.self.now
    (record (the_view c.self.inside) { processes = insert c.self.inside.processes c.from.result c.unlock-answer.new.self })
    c.args.who.now.pid c.get_mut-own.result.now c.unlock-answer.new.self (unlock_in c.args.who.now.pid c.who.inside.0.1.0 c.args.lock c.args.word)
call c =
    own_call (the_view c.self.inside) c.args.self.now _ c.args.who.now.pid c.from.result c.get_mut-own.result.now c.unlock-answer.new.self _
    (c.from.ensures ∙ ap (λ (w : Who). w.pid) c.who.view_is) c.self.view_is c.get_mut-own.ensures.value
    refl
    (unlocked_only c.args.who.now.pid c.who.inside.0.1.0 c.args.lock c.args.word c.get_mut-own.result.now)

pub invariant_of-self : goal.invariant_of-self
invariant_of-self d = record {
  kept =
      let c = (goal.at.invariant_of-self d).After-touch_told in
      own_call_kept (call c) (Ok c.unlock-answer.result) c.self.inside.objects.counts (c.unlock-answer.ensures.step c.args.who.now.pid) c.self.invariant.kept;
  waits =
      let c = (goal.at.invariant_of-self d).After-touch_told in
      let own : ProcessState = c.get_mut-own.result.now in
      told_by (the_view c.self.inside) c.self.inside.objects.counts c.from.result own c.unlock-answer.new.self c.self.inside.waits c.touch_told.new.waits _ c.unlock-answer.new.told
      c.self.invariant.kept c.get_mut-own.ensures.value
      (subst (λ (x : ProcessState). KeepsEach own.threads x.threads) (sym (c.unlock-answer.ensures.step c.args.who.now.pid).1)
      (unlock_keeps c.args.who.now.pid c.who.inside.0.1.0 c.args.lock c.args.word own)) c.unlock-answer.ensures.told
      (subst (λ q. HasEach (told_entry q c.unlock-answer.new.told) c.self.inside.waits c.touch_told.new.waits) (sym (c.from.ensures ∙ ap (λ (w : Who). w.pid) c.who.view_is)) c.touch_told.ensures) c.self.invariant.waits;
}

pub returns : goal.returns
returns d =
    let c = (goal.at.returns d).After-touch_told in
    subst (λ t. IsDone true (unlock_in c.args.who.now.pid t c.args.lock c.args.word (get c.args.self.now.processes c.args.who.now.pid)) c.args.self.now
    (record (the_view c.self.inside) { processes = insert c.self.inside.processes c.from.result c.unlock-answer.new.self })
    (Ok c.unlock-answer.result)) (ap (λ (w : Who). w.tid) c.who.view_is)
    (own_call_done (call c) (Ok c.unlock-answer.result) (c.unlock-answer.ensures.step c.args.who.now.pid) c.self.invariant.kept.valid)
