use Rattle.std.proofs.Common.{◌≡◌, ◌-◌, true, None, Some, is_some, refl, sym, ap, subst, ◌∙◌}
use Rattle.std.specs.Prelude.{option_copied}
use Rattle.std.specs.FinMap.{get}
use Rattle.abi_types.specs.declared.who.Who.{Who}
use Rattle.channel_calls.specs.Pairs.{model_of}
use Rattle.fd_table.specs.Table.{IsTable}
use Rattle.kernel_model.specs.Families.Numbers.{next_object}
use Rattle.kernel_model.specs.Families.SocketCalls as model
use Rattle.kernel_model.specs.Outcome.{replies}
use Rattle.kernel_model.specs.State.{State, Table}
use Rattle.kernel_model.proofs.Valids.{same_value}
use Rattle.kernel_parts.specs.Entries.{number_of}
use Rattle.kernel_parts.proofs.Lowest.{full_is_none}
use Rattle.kernel_parts.proofs.Naming.{numbered_is, unnumbered}
use Rattle.kernel_core.specs.Ends.{IsPair}
use Rattle.kernel_core.specs.contracts.kernel.Kernel.{the_view}
use Rattle.kernel_invariant.proofs.EndCalls.{create_filled, create_full, create_unnumbered, first_of, numbered_pair, threadless, unnumbered_pair}
use Rattle.kernel_core.proofs.kernel.Kernel.plan_pair.Goals as goal
use Rattle.kernel_core.proofs.kernel.Kernel.plan_pair.Goals.{In-Some-Some}

-- what the process has
same : (c : In-Some-Some) → c.from-p.result ≡ c.args.who.now.pid
same c = c.from-p.ensures ∙ ap (λ (w : Who). w.pid) c.who.view_is

there : (c : In-Some-Some) → get c.self.inside.tables c.args.who.now.pid ≡ Some c.in-Some-Some.table.now
there c = ap (get c.self.inside.tables) (sym (same c)) ∙ sym c.in-Some-Some.ensures.value

owned : (c : In-Some-Some) → get c.self.inside.processes c.args.who.now.pid ≡ Some c.in-Some-Some.own.now
owned c = ap (get c.self.inside.processes) (sym (same c)) ∙ sym c.in-Some-Some.ensures'.value

small : (c : In-Some-Some) → IsTable c.in-Some-Some.table.now
small c = c.self.invariant.kept.small c.args.who.now.pid c.in-Some-Some.table.now (there c)

-- what holds of the state as it is kept, and of its table, holds as it is seen
seen : (c : In-Some-Some) (P : State → Table → Type 0) → P (the_view c.self.inside) c.in-Some-Some.table.now
    → (table : Table) → get c.args.self.now.tables c.args.who.now.pid ≡ Some table → P c.args.self.now table
seen c P holds table here =
    let had : get c.args.self.now.tables c.args.who.now.pid ≡ Some c.in-Some-Some.table.now = ap (λ (S : State). get S.tables c.args.who.now.pid) (sym c.self.view_is) ∙ there c in
    subst (P c.args.self.now) (same_value _ _ _ had here) (subst (λ S. P S c.in-Some-Some.table.now) c.self.view_is holds)

pub returns-in_default-lowest-clause-refused : goal.returns-in_default-lowest-clause-refused
returns-in_default-lowest-clause-refused d = λ table here.
    let c = (goal.at.returns-in_default-lowest-clause-refused d).In-Some-Some in
    let who = d.args.who.now in
    seen c (λ S t. model.create (Some (model_of d.args.kind)) who.pid who.tid (get S.processes who.pid) t ≡ replies d.refused-in_default-lowest.result)
    (create_full who.pid who.tid (get d.self.inside.processes who.pid) d.in-Some-Some.table.now (model_of d.args.kind)
    (full_is_none d.in-Some-Some.table.now (small c) (d.in_default-lowest.ensures.full.0 refl))
    ∙ ap replies (sym d.refused-in_default-lowest.ensures)) table here

pub returns-in_default-lowest_beside-clause-refused : goal.returns-in_default-lowest_beside-clause-refused
returns-in_default-lowest_beside-clause-refused d = λ table here.
    let c = (goal.at.returns-in_default-lowest_beside-clause-refused d).In-Some-Some in
    let who = d.args.who.now in
    seen c (λ S t. model.create (Some (model_of d.args.kind)) who.pid who.tid (get S.processes who.pid) t ≡ replies d.refused-in_default-lowest_beside.result)
    (create_filled who.pid who.tid (get d.self.inside.processes who.pid) d.in-Some-Some.table.now (model_of d.args.kind) d.in-Some.one d.in-Some.ensures.free (small c)
    (λ x. (d.in_default-lowest_beside.ensures.full x).0 refl)
    ∙ ap replies (sym d.refused-in_default-lowest_beside.ensures)) table here

pub returns-in_default-thread-clause-refused : goal.returns-in_default-thread-clause-refused
returns-in_default-thread-clause-refused d = λ table here.
    let c = (goal.at.returns-in_default-thread-clause-refused d).In-Some-Some in
    let who = d.args.who.now in
    let none : get d.in-Some-Some.own.now.threads who.tid ≡ None =
    ap (λ (w : Who). get d.in-Some-Some.own.now.threads w.tid) (sym d.who.view_is) ∙ sym d.thread.ensures ∙ ap option_copied d.in_default-thread.is in
    let cannot = ap (model.can_create who.pid who.tid (model.count_of (model_of d.args.kind))) (owned c)
    ∙ threadless who.pid who.tid (model.count_of (model_of d.args.kind)) d.in-Some-Some.own.now none in
    seen c (λ S t. model.create (Some (model_of d.args.kind)) who.pid who.tid (get S.processes who.pid) t ≡ replies d.refused-in_default-thread.result)
    (create_unnumbered who.pid who.tid (get d.self.inside.processes who.pid) d.in-Some-Some.table.now (model_of d.args.kind) d.in-Some.one d.in-Some-lowest_beside.two
    d.in-Some.ensures.free d.in-Some-lowest_beside.ensures.free cannot
    ∙ ap replies (sym d.refused-in_default-thread.ensures)) table here

pub returns-in_default-numbered-clause-refused : goal.returns-in_default-numbered-clause-refused
returns-in_default-numbered-clause-refused d = λ table here.
    let c = (goal.at.returns-in_default-numbered-clause-refused d).In-Some-Some in
    let who = d.args.who.now in
    let count = model.count_of (model_of d.args.kind) in
    let none : number_of who.pid count (Some d.in-Some-Some.own.now) ≡ None =
    ap (λ n. number_of who.pid n (Some d.in-Some-Some.own.now)) (sym d.count_of-count.ensures) ∙ sym d.numbered.ensures.number ∙ d.in_default-numbered.is in
    let cannot = ap (model.can_create who.pid who.tid count) (owned c)
    ∙ unnumbered_pair who.pid who.tid count d.in-Some-Some.own.now (unnumbered who.pid count (Some d.in-Some-Some.own.now) none) in
    seen c (λ S t. model.create (Some (model_of d.args.kind)) who.pid who.tid (get S.processes who.pid) t ≡ replies d.refused-in_default-numbered.result)
    (create_unnumbered who.pid who.tid (get d.self.inside.processes who.pid) d.in-Some-Some.table.now (model_of d.args.kind) d.in-Some.one d.in-Some-lowest_beside.two
    d.in-Some.ensures.free d.in-Some-lowest_beside.ensures.free cannot
    ∙ ap replies (sym d.refused-in_default-numbered.ensures)) table here

pub returns-clause-ok : goal.returns-clause-ok
returns-clause-ok d = λ table here.
    let c = (goal.at.returns-clause-ok d).In-Some-Some in
    let S = the_view d.self.inside in
    let who = d.args.who.now in
    let count = model.count_of (model_of d.args.kind) in
    let found : number_of who.pid count (Some d.in-Some-Some.own.now) ≡ Some d.in-Some-numbered.last =
    ap (λ n. number_of who.pid n (Some d.in-Some-Some.own.now)) (sym d.count_of-count.ensures) ∙ sym d.numbered.ensures.number ∙ d.in-Some-numbered.is in
    let number = numbered_is who.pid count d.in-Some-numbered.last (Some d.in-Some-Some.own.now) found in
    let last : d.in-Some-numbered.last ≡ next_object who.pid (get S.processes who.pid) count = number.1 ∙ ap (λ o. next_object who.pid o count) (sym (owned c)) in
    let has : is_some (get d.in-Some-Some.own.now.threads who.tid) ≡ true =
    ap (λ (w : Who). is_some (get d.in-Some-Some.own.now.threads w.tid)) (sym d.who.view_is) ∙ ap is_some (sym d.thread.ensures ∙ ap option_copied d.in-Some-thread.is) in
    seen c (λ T t. IsPair T who t d.args.kind (record {
      kind = d.args.kind;
      first = d.last.inside.0 - d.from.result;
      one = d.in-Some.one;
      two = d.in-Some-lowest_beside.two;
    }))
    (record {
      kind_is = refl;
      one = d.in-Some.ensures.free;
      two = d.in-Some-lowest_beside.ensures.free;
      can = ap (model.can_create who.pid who.tid count) (owned c) ∙ numbered_pair who.pid who.tid count d.in-Some-Some.own.now has number.0;
      first = first_of d.args.kind who.pid d.last.inside.0 count d.from.result (get S.processes who.pid) (d.last.view_is ∙ last) refl
          (d.from.ensures ∙ ap (λ n. n - 1) d.count_of-count.ensures);
    }) table here
