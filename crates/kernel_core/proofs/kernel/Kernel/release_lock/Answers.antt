use Rattle.std.proofs.Common.{◌≡◌, [], ◌∷◌, Some, inr, refl, sym, ap, subst, ◌∙◌}
use Rattle.std.specs.FinMap.{get, insert}
use Rattle.abi_types.specs.declared.who.Who.{Who}
use Rattle.kernel_model.specs.Families.Locks.{release_of, released_word, unlocked_own}
use Rattle.kernel_model.specs.State.{State, ProcessState, set_process}
use Rattle.kernel_model.proofs.Tests.{same_some}
use Rattle.kernel_model.proofs.Locks.{KeepsEach, released_keeps}
use Rattle.kernel_parts.specs.Touching.{HasEach, told_entry}
use Rattle.kernel_invariant.specs.Held.{IsKept}
use Rattle.kernel_core.specs.contracts.kernel.Kernel.{the_view}
use Rattle.kernel_invariant.proofs.Leaving.{with_process}
use Rattle.kernel_core.proofs.OwnCalls.{own_kept, unlocked_may}
use Rattle.kernel_invariant.proofs.HeldTold.{told_by}
use Rattle.kernel_core.proofs.kernel.Kernel.release_lock.Goals as goal
use Rattle.kernel_core.proofs.kernel.Kernel.release_lock.Goals.{After-touch_told}

same : (c : After-touch_told) → c.from.result ≡ c.args.who.now.pid
same c = c.from.ensures ∙ ap (λ (w : Who). w.pid) c.who.view_is

there : (c : After-touch_told) → get c.self.inside.processes c.args.who.now.pid ≡ Some c.get_mut-own.result.now
there c = ap (get c.self.inside.processes) (sym (same c)) ∙ sym c.get_mut-own.ensures.value

-- the state with that process
put : (c : After-touch_told) → record (the_view c.self.inside) { processes = insert c.self.inside.processes c.from.result c.release_lock-left.new.self }
    ≡ with_process (the_view c.self.inside) c.args.who.now.pid c.release_lock-left.new.self
put c = λ i. record (the_view c.self.inside) { processes = insert c.self.inside.processes (same c i) c.release_lock-left.new.self }

tid_is : (c : After-touch_told) → c.who.inside.0.1.0 ≡ c.args.who.now.tid
tid_is c = ap (λ (w : Who). w.tid) c.who.view_is

own_is : (c : After-touch_told) → c.release_lock-left.new.self ≡ unlocked_own c.args.lock c.args.word c.args.who.now.tid c.get_mut-own.result.now
own_is c = c.release_lock-left.ensures.own ∙ ap (λ t. unlocked_own c.args.lock c.args.word t c.get_mut-own.result.now) (tid_is c)

pub invariant_of-self : goal.invariant_of-self
invariant_of-self d = record {
  kept =
      let c = (goal.at.invariant_of-self d).After-touch_told in
      let pid = c.args.who.now.pid in
      let own : ProcessState = c.get_mut-own.result.now in
      let new = unlocked_own c.args.lock c.args.word c.args.who.now.tid own in
      subst (λ (S : State). IsKept S c.self.inside.objects.counts) (sym (put c ∙ ap (with_process (the_view c.self.inside) pid) (own_is c)))
      (own_kept (the_view c.self.inside) pid own (there c) (set_process pid new ∷ [])
      (inr (new, refl, unlocked_may pid c.args.lock c.args.word c.args.who.now.tid own)) c.self.inside.objects.counts c.self.invariant.kept);
  waits =
      let c = (goal.at.invariant_of-self d).After-touch_told in
      let own : ProcessState = c.get_mut-own.result.now in
      told_by (the_view c.self.inside) c.self.inside.objects.counts c.from.result own c.release_lock-left.new.self c.self.inside.waits c.touch_told.new.waits _ c.release_lock-left.new.told
      c.self.invariant.kept c.get_mut-own.ensures.value
      (subst (λ (x : ProcessState). KeepsEach own.threads x.threads) (sym (own_is c))
      (released_keeps (release_of c.args.who.now.tid c.args.word) c.args.lock own.threads)) c.release_lock-left.ensures.told
      (subst (λ q. HasEach (told_entry q c.release_lock-left.new.told) c.self.inside.waits c.touch_told.new.waits) (sym (same c)) c.touch_told.ensures) c.self.invariant.waits;
}

pub returns : goal.returns
returns d = λ had is.
    let c = (goal.at.returns d).After-touch_told in
    let pid = c.args.who.now.pid in
    let own : ProcessState = c.get_mut-own.result.now in
    let same : own ≡ had = same_some own had (sym (there c) ∙ ap (λ (S : State). get S.processes pid) c.self.view_is ∙ is) in (
      c.release_lock-left.ensures.word ∙ (λ i. released_word (release_of (tid_is c i) c.args.word) c.args.lock (same i).threads),
      put c ∙ ap (with_process (the_view c.self.inside) pid) (own_is c ∙ ap (unlocked_own c.args.lock c.args.word c.args.who.now.tid) same)
          ∙ ap (λ (S : State). with_process S pid (unlocked_own c.args.lock c.args.word c.args.who.now.tid had)) c.self.view_is,
    )
