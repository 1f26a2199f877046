use Rattle.std.proofs.Common.{◌≡◌, ℕ, ◌+◌, ◌-◌, None, Some, refl, sym, ap, subst, ◌∙◌}
use Rattle.std.specs.FinMap.{get}
use Rattle.abi_base.specs.declared.errno.Errno.TheVariants.{Badf}
use Rattle.file_calls.specs.declared.paths.PathFault.TheVariants as path_fault
use Rattle.kernel_model.specs.Families.Numbers.{can_number, next_object}
use Rattle.kernel_model.specs.Families.Opening.{opened_descriptor}
use Rattle.kernel_model.specs.Outcome.{replies}
use Rattle.kernel_model.specs.State.{State, Table, tree_of}
use Rattle.kernel_model.proofs.Valids.{same_value}
use Rattle.entry_calls.specs.Plans.{new_nodes_of, opened_by, opened_of}
use Rattle.kernel_parts.specs.Entries.{number_of, open_in}
use Rattle.kernel_core.specs.Opening.{IsOpening, open_outcome, opened_at}
use Rattle.kernel_core.specs.contracts.kernel.Kernel.{the_view}
use Rattle.kernel_parts.proofs.Lowest.{full_is_none}
use Rattle.kernel_parts.proofs.Naming.{numbered_is, unnumbered}
use Rattle.kernel_core.proofs.OpenCalls.{first_number, full_opens_none, opens_from, refused_opens_none, uncounted_opens_none}
use Rattle.kernel_core.proofs.Opens.{found_here, open_absent}
use Rattle.kernel_core.proofs.kernel.Kernel.plan_opening.Goals as goal
use Rattle.kernel_core.proofs.kernel.Kernel.plan_opening.Goals.{In-Some-Some, In-Ok}

-- what the process has
there : (c : In-Some-Some) → get c.self.inside.tables c.args.pid ≡ Some c.in-Some-Some.table.now
there c = ap (get c.self.inside.tables) (sym (c.from-p.ensures ∙ c.pid.view_is)) ∙ sym c.in-Some-Some.ensures.value

owned : (c : In-Some-Some) → get c.self.inside.processes c.args.pid ≡ Some c.in-Some-Some.own.now
owned c = ap (get c.self.inside.processes) (sym (c.from-p.ensures ∙ c.pid.view_is)) ∙ sym c.in-Some-Some.ensures'.value

-- what holds of the state as it is kept, and of its table, holds as it is seen
seen : (c : In-Some-Some) (P : State → Table → Type 0) → P (the_view c.self.inside) c.in-Some-Some.table.now
    → (table : Table) → get c.args.self.now.tables c.args.pid ≡ Some table → P c.args.self.now table
seen c P holds table here =
    let had : get c.args.self.now.tables c.args.pid ≡ Some c.in-Some-Some.table.now = ap (λ (S : State). get S.tables c.args.pid) (sym c.self.view_is) ∙ there c in
    subst (P c.args.self.now) (same_value _ _ _ had here) (subst (λ S. P S c.in-Some-Some.table.now) c.self.view_is holds)

pub returns-in_default-lowest-clause-refused : goal.returns-in_default-lowest-clause-refused
returns-in_default-lowest-clause-refused d = λ table here now.
    let c = (goal.at.returns-in_default-lowest-clause-refused d).In-Some-Some in
    seen c (λ S t. open_outcome now S d.args.pid t d.args.call.now.lookup d.args.call.now.path.now d.args.call.now.oflags d.args.call.now.stat ≡ replies d.refused-in_default-lowest.result)
    (full_opens_none now (the_view d.self.inside) d.args.pid d.in-Some-Some.table.now d.args.call.now.lookup d.args.call.now.path.now d.args.call.now.oflags d.args.call.now.stat
    d.refused-in_default-lowest.result
    (full_is_none d.in-Some-Some.table.now (d.self.invariant.kept.small d.args.pid d.in-Some-Some.table.now (there c)) (d.in_default-lowest.ensures.full.0 refl))
    d.refused-in_default-lowest.ensures) table here

pub returns-in_default-open_of-clause-refused : goal.returns-in_default-open_of-clause-refused
returns-in_default-open_of-clause-refused d = λ table here now.
    let c = (goal.at.returns-in_default-open_of-clause-refused d).In-Some-Some in
    let S = the_view d.self.inside in
    let none : None ≡ open_in S.opens (get d.in-Some-Some.table.now d.args.call.now.lookup.fd) =
    sym (open_absent S.opens (get S.tables d.args.pid) d.in-Some-Some.table.now d.args.call.now.lookup.fd (there c) (sym d.open_of.ensures ∙ d.in_default-open_of.is)) in
    seen c (λ T t. open_outcome now T d.args.pid t d.args.call.now.lookup d.args.call.now.path.now d.args.call.now.oflags d.args.call.now.stat ≡ replies d.refused-in_default-open_of.result)
    (refused_opens_none now S d.args.pid d.in-Some-Some.table.now d.args.call.now.lookup d.args.call.now.path.now d.args.call.now.oflags d.args.call.now.stat
    d.refused-in_default-open_of.result d.in-Some.fd (path_fault.Errno Badf) d.in-Some.ensures.free
    (opens_from now (next_object d.args.pid (get S.processes d.args.pid) 1) S d.in-Some-Some.table.now d.args.call.now.lookup d.args.call.now.path.now d.args.call.now.oflags d.args.call.now.stat None none)
    d.refused-in_default-open_of.ensures) table here

pub returns-in-Err-clause-refused : goal.returns-in-Err-clause-refused
returns-in-Err-clause-refused d = λ table here now.
    let c = (goal.at.returns-in-Err-clause-refused d).In-Some-Some in
    let S = the_view d.self.inside in
    let new : ℕ = next_object d.args.pid (get S.processes d.args.pid) 1 in
    seen c (λ T t. open_outcome now T d.args.pid t d.args.call.now.lookup d.args.call.now.path.now d.args.call.now.oflags d.args.call.now.stat ≡ replies d.reply_of.result)
    (refused_opens_none now S d.args.pid d.in-Some-Some.table.now d.args.call.now.lookup d.args.call.now.path.now d.args.call.now.oflags d.args.call.now.stat
    d.reply_of.result d.in-Some.fd d.in-Err.refusal d.in-Some.ensures.free
    (opens_from now new S d.in-Some-Some.table.now d.args.call.now.lookup d.args.call.now.path.now d.args.call.now.oflags d.args.call.now.stat (Some d.in-Some-open_of.here) (found_here S d.args.pid d.args.call.now.lookup.fd d.in-Some-Some.table.now d.open_of.result _ d.in-Some-open_of.here (there c) d.open_of.ensures d.in-Some-open_of.is)
    ∙ d.plan_open.ensures d.args.call.now.stat.flags now new ∙ ap (λ r. opened_of r d.args.call.now.path.now (tree_of S) d.args.call.now.stat.flags now new) d.in-Err.is)
    d.reply_of.ensures) table here

there_planned : (c : In-Ok) → get c.self.inside.tables c.args.pid ≡ Some c.in-Some-Some.table.now
there_planned c = ap (get c.self.inside.tables) (sym (c.from-p.ensures ∙ c.pid.view_is)) ∙ sym c.in-Some-Some.ensures.value

-- what is opened by the plan
planned : (c : In-Ok) (now new : ℕ)
    → opened_at now new (the_view c.self.inside) c.in-Some-Some.table.now c.args.call.now.lookup c.args.call.now.path.now c.args.call.now.oflags c.args.call.now.stat
    ≡ opened_by c.in-Ok.plan c.args.call.now.path.now (tree_of (the_view c.self.inside)) c.args.call.now.stat.flags now new
planned c now new =
    opens_from now new (the_view c.self.inside) c.in-Some-Some.table.now c.args.call.now.lookup c.args.call.now.path.now c.args.call.now.oflags c.args.call.now.stat
    (Some c.in-Some-open_of.here)
    (found_here (the_view c.self.inside) c.args.pid c.args.call.now.lookup.fd c.in-Some-Some.table.now c.open_of.result _ c.in-Some-open_of.here (there_planned c)
    c.open_of.ensures c.in-Some-open_of.is)
    ∙ c.plan_open.ensures c.args.call.now.stat.flags now new
    ∙ ap (λ r. opened_of r c.args.call.now.path.now (tree_of (the_view c.self.inside)) c.args.call.now.stat.flags now new) c.in-Ok.is

pub returns-in_default-numbered-clause-refused : goal.returns-in_default-numbered-clause-refused
returns-in_default-numbered-clause-refused d = λ table here now.
    let c = (goal.at.returns-in_default-numbered-clause-refused d).In-Some-Some in
    let S = the_view d.self.inside in
    let new : ℕ = next_object d.args.pid (get S.processes d.args.pid) 1 in
    let none : number_of d.args.pid (new_nodes_of d.in-Ok.plan + 1) (Some d.in-Some-Some.own.now) ≡ None =
    ap (λ k. number_of d.args.pid (k + 1) (Some d.in-Some-Some.own.now)) (sym d.new_nodes.ensures) ∙ sym d.numbered.ensures.number ∙ d.in_default-numbered.is in
    seen c (λ T t. open_outcome now T d.args.pid t d.args.call.now.lookup d.args.call.now.path.now d.args.call.now.oflags d.args.call.now.stat ≡ replies d.refused-in_default-numbered.result)
    (uncounted_opens_none now S d.args.pid d.in-Some-Some.table.now d.args.call.now.lookup d.args.call.now.path.now d.args.call.now.oflags d.args.call.now.stat
    d.refused-in_default-numbered.result d.in-Some.fd d.in-Ok.plan d.in-Some.ensures.free
    (planned (goal.at.returns-in_default-numbered-clause-refused d).In-Ok now new)
    (ap (can_number d.args.pid (new_nodes_of d.in-Ok.plan + 1)) (owned c) ∙ unnumbered d.args.pid (new_nodes_of d.in-Ok.plan + 1) (Some d.in-Some-Some.own.now) none)
    d.refused-in_default-numbered.ensures) table here

pub returns-clause-ok : goal.returns-clause-ok
returns-clause-ok d = λ table here.
    let c = (goal.at.returns-clause-ok d).In-Some-Some in
    let S = the_view d.self.inside in
    let p : ℕ = d.args.pid in
    let stat = d.args.call.now.stat in
    let new_nodes : ℕ = new_nodes_of d.in-Ok.plan in
    let found : number_of p (new_nodes + 1) (Some d.in-Some-Some.own.now) ≡ Some d.in-Some-numbered.id =
    ap (λ k. number_of p (k + 1) (Some d.in-Some-Some.own.now)) (sym d.new_nodes.ensures) ∙ sym d.numbered.ensures.number ∙ d.in-Some-numbered.is in
    let number = numbered_is p (new_nodes + 1) d.in-Some-numbered.id (Some d.in-Some-Some.own.now) found in
    let last : d.in-Some-numbered.id ≡ next_object p (get S.processes p) (new_nodes + 1) =
    number.1 ∙ ap (λ o. next_object p o (new_nodes + 1)) (sym (owned c)) in
    seen c (λ T t. IsOpening T p t d.args.call.now.lookup d.args.call.now.path.now d.args.call.now.oflags stat (record {
      fd = d.in-Some.fd;
      descriptor = d.descriptor.result;
      kind = d.kind.result;
      plan = d.in-Ok.plan;
      new = d.id.inside.0 - d.from.result;
    }))
    (record {
      free = d.in-Some.ensures.free;
      can = ap (can_number p (new_nodes + 1)) (owned c) ∙ number.0;
      new = first_number p new_nodes d.id.inside.0 d.from.result (get S.processes p) (d.id.view_is ∙ last) (d.from.ensures ∙ d.new_nodes-2.ensures);
      kind = d.kind.ensures;
      descriptor = d.descriptor.ensures stat.flags (d.id.inside.0 - d.from.result)
          ∙ ap (λ k. opened_descriptor d.in-Some-numbered.id k stat) (sym d.kind.ensures) ∙ ap (λ n. opened_descriptor n d.kind.result stat) last;
      opened = planned (goal.at.returns-clause-ok d).In-Ok;
    }) table here
