use Rattle.std.proofs.Common.{◌≡◌, sym, ap, refl, subst, ◌∙◌}
use Rattle.std.specs.Prelude.{true}
use Rattle.std.specs.FinMap.{get, insert}
use Rattle.abi_types.specs.declared.who.Who.{Who}
use Rattle.kernel_model.specs.Families.ProcessCalls.{made_in}
use Rattle.kernel_model.specs.Done.{IsDone}
use Rattle.kernel_core.specs.contracts.kernel.Kernel.{the_view}
use Rattle.readiness_laws.specs.Watched.{looked_at}
use Rattle.kernel_invariant.specs.Held.{AreHeld}
use Rattle.kernel_invariant.proofs.HeldBirths.{made_is_held}
use Rattle.kernel_core.proofs.OwnCalls.{created_only, own_call, own_call_done, own_call_kept, IsOwnCall}
use Rattle.kernel_core.proofs.kernel.Kernel.thread_create.Goals as goal
use Rattle.kernel_core.proofs.kernel.Kernel.thread_create.Goals.{After-make_thread}

call : (c : After-make_thread) → IsOwnCall (the_view c.self.inside) c.args.self.now
    (record (the_view c.self.inside) { processes = insert c.self.inside.processes c.from.result c.make_thread.new.self })
    c.args.who.now.pid c.get_mut-own.result.now c.make_thread.new.self (made_in c.args.who.now.pid c.who.inside.0.1.0)
call c =
    own_call (the_view c.self.inside) c.args.self.now _ c.args.who.now.pid c.from.result c.get_mut-own.result.now c.make_thread.new.self _
    (c.from.ensures ∙ ap (λ (w : Who). w.pid) c.who.view_is) c.self.view_is c.get_mut-own.ensures.value refl
    (created_only c.args.who.now.pid c.who.inside.0.1.0 c.get_mut-own.result.now)

pub invariant_of-self : goal.invariant_of-self
invariant_of-self d = record {
  kept =
      let c = (goal.at.invariant_of-self d).After-make_thread in
      own_call_kept (call c) c.make_thread.result c.self.inside.objects.counts (c.make_thread.ensures.done c.args.who.now.pid) c.self.invariant.kept;
  waits =
      let same : d.from.result ≡ d.args.who.now.pid = d.from.ensures ∙ ap (λ (w : Who). w.pid) d.who.view_is in
      subst (λ n. AreHeld (looked_at (record (the_view d.self.inside) { processes = insert d.self.inside.processes n d.make_thread.new.self })) d.make_thread.new.waits)
      (sym same)
      (made_is_held (the_view d.self.inside) d.self.inside.waits d.make_thread.new.waits d.args.who.now.pid d.get_mut-own.result.now d.make_thread.new.self
      (ap (get d.self.inside.processes) (sym same) ∙ sym d.get_mut-own.ensures.value) d.self.invariant.waits d.make_thread.ensures.entry);
}

pub returns : goal.returns
returns d =
    let c = (goal.at.returns d).After-make_thread in
    subst (λ t. IsDone true (made_in c.args.who.now.pid t (get c.args.self.now.processes c.args.who.now.pid)) c.args.self.now
    (record (the_view c.self.inside) { processes = insert c.self.inside.processes c.from.result c.make_thread.new.self }) c.make_thread.result)
    (ap (λ (w : Who). w.tid) c.who.view_is)
    (own_call_done (call c) c.make_thread.result (c.make_thread.ensures.done c.args.who.now.pid) c.self.invariant.kept.valid)
