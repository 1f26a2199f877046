use Rattle.std.proofs.Common.{◌≡◌, ◌<◌, ◌^◌, None, Some, sym, ap, subst, ◌∙◌}
use Rattle.std.specs.FinMap.{get, insert}
use Rattle.abi_types.specs.declared.thread.Thread.TheVariants.{Runnable}
use Rattle.kernel_model.specs.State.{State}
use Rattle.kernel_model.specs.Waits.{with_thread}
use Rattle.kernel_model.proofs.Tests.{none_of}
use Rattle.kernel_parts.specs.Touching.{HasEach}
use Rattle.readiness_laws.specs.Watched.{looked_at}
use Rattle.wait_set.specs.Waits.{running}
use Rattle.kernel_invariant.specs.Held.{AreHeld, IsKept}
use Rattle.kernel_invariant.specs.Readiness.{at_key}
use Rattle.kernel_core.specs.contracts.kernel.Kernel.{the_view}
use Rattle.kernel_invariant.proofs.HeldStanding.{ran_is_held}
use Rattle.kernel_invariant.proofs.Parks.{after_kept, set_after, set_process_none}
use Rattle.kernel_core.proofs.kernel.Kernel.resume.Goals as goal
use Rattle.kernel_core.proofs.kernel.Kernel.resume.Goals.{After-run_entry}

pub returns-then-not-contains-clause-runs : goal.returns-then-not-contains-clause-runs
returns-then-not-contains-clause-runs c =
    let same : c.from-p.result ≡ c.args.pid = c.from-p.ensures ∙ c.pid.view_is in
    let none : get c.args.self.now.processes c.args.pid ≡ None =
    ap (λ (S : State). get S.processes c.args.pid) (sym c.self.view_is) ∙ ap (get c.self.inside.processes) (sym same)
    ∙ none_of (get c.self.inside.processes c.from-p.result) (sym c.contains.ensures ∙ c.if-not-contains.true) in
    sym (set_process_none c.args.self.now c.args.pid c.args.tid Runnable none)

same_number : (c : After-run_entry) → c.from-p.result ≡ c.args.pid
same_number c = c.from-p.ensures ∙ c.pid.view_is

there : (c : After-run_entry) → get c.self.inside.processes c.args.pid ≡ Some c.get_mut.result.now
there c = ap (get c.self.inside.processes) (sym (same_number c)) ∙ sym c.get_mut.ensures.value

-- the state with that process
put : (c : After-run_entry) → record (the_view c.self.inside) { processes = insert c.self.inside.processes c.from-p.result c.resume-resumed.new.self }
    ≡ record (the_view c.self.inside) { processes = insert c.self.inside.processes c.args.pid c.resume-resumed.new.self }
put c = λ i. record (the_view c.self.inside) { processes = insert c.self.inside.processes (same_number c i) c.resume-resumed.new.self }

-- the state with the thread that runs
is : (c : After-run_entry) → record (the_view c.self.inside) { processes = insert c.self.inside.processes c.from-p.result c.resume-resumed.new.self }
    ≡ with_thread (the_view c.self.inside) c.args.pid c.args.tid Runnable
is c = put c ∙ set_after (the_view c.self.inside) c.args.pid c.args.tid Runnable c.get_mut.result.now c.resume-resumed.new.self (there c) c.resume-resumed.ensures.runs

pub invariant_of-self : goal.invariant_of-self
invariant_of-self c =
    let fits : c.args.tid < 2 ^ 32 = search in
    record {
      kept =
          subst (λ (S : State). IsKept S c.self.inside.objects.counts) (sym (put c))
          (after_kept (the_view c.self.inside) c.args.pid c.args.tid Runnable c.get_mut.result.now c.resume-resumed.new.self (there c) c.self.inside.objects.counts tt
          c.self.invariant.kept c.resume-resumed.ensures.runs);
      waits =
          subst (λ (S : State). AreHeld (looked_at S) c.run_entry.new.waits) (sym (is c))
          (ran_is_held (the_view c.self.inside) c.self.inside.waits c.run_entry.new.waits c.args.pid c.args.tid fits c.self.invariant.waits
          (subst (λ k. HasEach (at_key k running) c.self.inside.waits c.run_entry.new.waits) c.thread_key.ensures c.run_entry.ensures));
    }

pub returns-clause-runs : goal.returns-clause-runs
returns-clause-runs c = is c ∙ ap (λ S. with_thread S c.args.pid c.args.tid Runnable) c.self.view_is
