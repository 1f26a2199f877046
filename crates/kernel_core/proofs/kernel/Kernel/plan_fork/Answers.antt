use Rattle.std.proofs.Common.{◌≡◌, Some, sym, ap, subst, ◌∙◌}
use Rattle.std.proofs.lemmas.Result.{IfErr-weaker, IfOk-weaker}
use Rattle.std.specs.FinMap.{get}
use Rattle.abi_types.specs.declared.who.Who.{Who}
use Rattle.kernel_model.specs.Families.DescriptorCalls.{lowest_free}
use Rattle.kernel_model.specs.Families.ForkCalls.{fork_at}
use Rattle.kernel_model.specs.Outcome.{replies}
use Rattle.kernel_model.specs.State.{State}
use Rattle.kernel_model.proofs.Valids.{same_value}
use Rattle.process_calls.specs.Forks.{IsPlan}
use Rattle.kernel_core.specs.contracts.kernel.Kernel.{the_view}
use Rattle.kernel_invariant.proofs.ForkCalls.{child_fits}
use Rattle.kernel_core.proofs.kernel.Kernel.plan_fork.Goals as goal
use Rattle.kernel_core.proofs.kernel.Kernel.plan_fork.Goals.{In-Some-Some}

-- what the process has
same : (c : In-Some-Some) → c.from-p.result ≡ c.args.who.now.pid
same c = c.from-p.ensures ∙ ap (λ (w : Who). w.pid) c.who.view_is

there : (c : In-Some-Some) → get c.args.self.now.tables c.args.who.now.pid ≡ Some c.in-Some-Some.table.now
there c =
    ap (λ (S : State). get S.tables c.args.who.now.pid) (sym c.self.view_is) ∙ ap (get c.self.inside.tables) (sym (same c)) ∙ sym c.in-Some-Some.ensures.value

owned : (c : In-Some-Some) → get c.self.inside.processes c.args.who.now.pid ≡ Some c.in-Some-Some.own.now
owned c = ap (get c.self.inside.processes) (sym (same c)) ∙ sym c.in-Some-Some.ensures'.value

seen : (c : In-Some-Some) → get c.args.self.now.processes c.args.who.now.pid ≡ Some c.in-Some-Some.own.now
seen c = ap (λ (S : State). get S.processes c.args.who.now.pid) (sym c.self.view_is) ∙ owned c

pub plan_child-requires : goal.plan_child-requires
plan_child-requires d =
    let c = (goal.at.plan_child-requires d).In-Some-Some in
    record { fits = child_fits (the_view c.self.inside) c.args.who.now.pid c.in-Some-Some.own.now (owned c) c.self.invariant.kept.valid.nearly }

-- the thread is the caller's
tid_is : (c : In-Some-Some) → c.who.inside.0.1.0 ≡ c.args.who.now.tid
tid_is c = ap (λ (w : Who). w.tid) c.who.view_is

pub returns-clause-ok : goal.returns-clause-ok
returns-clause-ok d =
    let c = (goal.at.returns-clause-ok d).In-Some-Some in
    let who = d.args.who.now in
    IfOk-weaker d.plan_child.result (IsPlan d.args.left who.pid d.who.inside.0.1.0 d.in-Some-Some.own.now d.in-Some-Some.table.now) _
    (λ plan is table own here mine.
    subst (λ t. IsPlan d.args.left who.pid who.tid own t plan) (same_value _ _ _ (there c) here)
    (subst (λ o. IsPlan d.args.left who.pid who.tid o d.in-Some-Some.table.now plan) (same_value _ _ _ (seen c) mine)
    (subst (λ t. IsPlan d.args.left who.pid t d.in-Some-Some.own.now d.in-Some-Some.table.now plan) (tid_is c) is))) d.plan_child.ensures.ok

pub returns-clause-refused : goal.returns-clause-refused
returns-clause-refused d =
    let c = (goal.at.returns-clause-refused d).In-Some-Some in
    let who = d.args.who.now in
    let had = d.in-Some-Some.table.now in
    IfErr-weaker d.plan_child.result
    (λ reply. fork_at d.args.left who.pid d.who.inside.0.1.0 (Some d.in-Some-Some.own.now) had (lowest_free had) ≡ replies reply) _ (λ reply is table here.
    let tables : table ≡ had = same_value _ _ _ here (there c) in
    (λ i. fork_at d.args.left who.pid who.tid (seen c i) (tables i) (lowest_free (tables i)))
    ∙ ap (λ t. fork_at d.args.left who.pid t (Some d.in-Some-Some.own.now) had (lowest_free had)) (sym (tid_is c)) ∙ is) d.plan_child.ensures.refused
