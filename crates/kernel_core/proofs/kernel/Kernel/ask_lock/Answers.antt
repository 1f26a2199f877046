use Rattle.std.proofs.Common.{IsSome, Ok, is_some, refl, sym, ap, subst, ◌∙◌}
use Rattle.std.specs.FinMap.{get, insert}
use Rattle.abi_types.specs.declared.who.Who.{Who}
use Rattle.kernel_model.specs.Families.LockCalls.{waited_outcome}
use Rattle.kernel_model.specs.State.{State, ProcessState, thread_of}
use Rattle.kernel_model.proofs.Locks.{KeepsEach}
use Rattle.kernel_parts.specs.Touching.{HasEach, told_entry}
use Rattle.kernel_core.specs.contracts.kernel.Kernel.{the_view}
use Rattle.kernel_invariant.proofs.Leaving.{with_process}
use Rattle.kernel_core.proofs.OwnCalls.{own_call, own_call_done, own_call_kept, waited_only, waited_stays, IsOwnCall}
use Rattle.kernel_invariant.proofs.Parks.{thread_by}
use Rattle.maps.specs.Maps.{get-insert-same}
use Rattle.kernel_invariant.proofs.HeldTold.{told_by, wait_keeps}
use Rattle.kernel_core.proofs.kernel.Kernel.ask_lock.Goals as goal
use Rattle.kernel_core.proofs.kernel.Kernel.ask_lock.Goals.{After-touch_told}

call : (c : After-touch_told) → IsOwnCall (the_view c.self.inside) c.args.self.now
    (record (the_view c.self.inside) { processes = insert c.self.inside.processes c.from.result c.lock_poll-answer.new.self })
    c.args.who.now.pid c.get_mut-own.result.now c.lock_poll-answer.new.self (waited_outcome c.args.first.now.userdata c.args.first.now.what c.args.who.now.pid c.args.who.now.tid c.args.who.now.stage)
call c =
    own_call (the_view c.self.inside) c.args.self.now _ c.args.who.now.pid c.from.result c.get_mut-own.result.now c.lock_poll-answer.new.self _
    (c.from.ensures ∙ ap (λ (w : Who). w.pid) c.who.view_is) c.self.view_is c.get_mut-own.ensures.value
    refl
    (waited_only c.args.first.now.userdata c.args.first.now.what c.args.who.now.pid c.args.who.now.tid c.args.who.now.stage c.get_mut-own.result.now)

pub invariant_of-self : goal.invariant_of-self
invariant_of-self d = record {
  kept =
      let c = (goal.at.invariant_of-self d).After-touch_told in
      own_call_kept (call c) (Ok c.lock_poll-answer.result) c.self.inside.objects.counts (c.lock_poll-answer.ensures.step c.args.who.now.pid) c.self.invariant.kept;
  waits =
      let c = (goal.at.invariant_of-self d).After-touch_told in
      let own : ProcessState = c.get_mut-own.result.now in
      told_by (the_view c.self.inside) c.self.inside.objects.counts c.from.result own c.lock_poll-answer.new.self c.self.inside.waits c.touch_told.new.waits _ c.lock_poll-answer.new.told
      c.self.invariant.kept c.get_mut-own.ensures.value
      (subst (λ (x : ProcessState). KeepsEach own.threads x.threads) (sym (c.lock_poll-answer.ensures.step c.args.who.now.pid).1)
      (wait_keeps c.args.first.now.userdata c.args.first.now.what c.args.who.now.pid c.args.who.now.tid c.args.who.now.stage own)) c.lock_poll-answer.ensures.told
      (subst (λ q. HasEach (told_entry q c.lock_poll-answer.new.told) c.self.inside.waits c.touch_told.new.waits) (sym (c.from.ensures ∙ ap (λ (w : Who). w.pid) c.who.view_is)) c.touch_told.ensures) c.self.invariant.waits;
}

pub returns-clause-done : goal.returns-clause-done
returns-clause-done d =
    let c = (goal.at.returns-clause-done d).After-touch_told in
    own_call_done (call c) (Ok c.lock_poll-answer.result) (c.lock_poll-answer.ensures.step c.args.who.now.pid) c.self.invariant.kept.valid

-- the thread is there before and after it
pub returns-clause-there : goal.returns-clause-there
returns-clause-there d =
    let c = (goal.at.returns-clause-there d).After-touch_told in
    let is = call c in
    let pid = c.args.who.now.pid in
    let tid = c.args.who.now.tid in
    let new = c.lock_poll-answer.new.self in
    let S = the_view c.self.inside in
    let own : ProcessState = c.get_mut-own.result.now in
    let here : IsSome (get own.threads tid) =
    subst IsSome (thread_by S pid tid own is.had) (subst (λ (X : State). IsSome (thread_of X pid tid)) (sym c.self.view_is) c.requires.there) in
    subst (λ (T : State). IsSome (thread_of T pid tid)) (sym is.put)
    (subst IsSome (sym (thread_by (with_process S pid new) pid tid new (get-insert-same S.processes pid new)))
    (ap (λ (x : ProcessState). is_some (get x.threads tid)) (c.lock_poll-answer.ensures.step pid).1
    ∙ waited_stays c.args.first.now.userdata c.args.first.now.what pid tid c.args.who.now.stage own tid ∙ here))
