use Rattle.std.proofs.Common.{◌≡◌, Some, sym, ap, subst, ◌∙◌}
use Rattle.std.proofs.lemmas.Result.{IfErr-weaker, IfOk-weaker, on_err_weaker}
use Rattle.std.specs.Prelude.{option_copied}
use Rattle.std.specs.FinMap.{get}
use Rattle.abi_types.specs.declared.who.Who.{Who}
use Rattle.kernel_model.specs.Families.ForkCalls.{listed}
use Rattle.kernel_model.specs.Outcome.{IsSuccess, Outcome, replies}
use Rattle.kernel_model.specs.State.{State, Table}
use Rattle.kernel_model.proofs.Valids.{same_value}
use Rattle.process_calls.specs.Forks.{IsOpenOf}
use Rattle.process_calls.specs.NewPrograms.{Begins, exec_bytes, exec_outcome}
use Rattle.kernel_core.specs.contracts.kernel.Kernel.{the_view}
use Rattle.process_calls.proofs.ExecCalls.{exec_at, exec_begins, exec_succeeds, listed_opens}
use Rattle.kernel_core.proofs.Opens.{found_here}
use Rattle.kernel_core.proofs.kernel.Kernel.plan_exec.Goals as goal
use Rattle.kernel_core.proofs.kernel.Kernel.plan_exec.Goals.{After-plan_program}

-- what the process has
same : (c : After-plan_program) → c.from-p.result ≡ c.args.who.now.pid
same c = c.from-p.ensures ∙ ap (λ (w : Who). w.pid) c.who.view_is

there : (c : After-plan_program) → get c.self.inside.tables c.args.who.now.pid ≡ Some c.in-Some-Some.table.now
there c = ap (get c.self.inside.tables) (sym (same c)) ∙ sym c.in-Some-Some.ensures.value

owned : (c : After-plan_program) → get c.self.inside.processes c.args.who.now.pid ≡ Some c.in-Some-Some.own.now
owned c = ap (get c.self.inside.processes) (sym (same c)) ∙ sym c.in-Some-Some.ensures'.value

-- what holds of the state as it is kept, and of its table, holds as it is seen
seen : (c : After-plan_program) (P : State → Table → Type 0) → P (the_view c.self.inside) c.in-Some-Some.table.now
    → (table : Table) → get c.args.self.now.tables c.args.who.now.pid ≡ Some table → P c.args.self.now table
seen c P holds table here =
    let had : get c.args.self.now.tables c.args.who.now.pid ≡ Some c.in-Some-Some.table.now = ap (λ (S : State). get S.tables c.args.who.now.pid) (sym c.self.view_is) ∙ there c in
    subst (P c.args.self.now) (same_value _ _ _ had here) (subst (λ S. P S c.in-Some-Some.table.now) c.self.view_is holds)

-- what the call comes to, by the program
comes : (c : After-plan_program) → exec_outcome c.args.constants.now.key (the_view c.self.inside) c.args.who.now.pid c.args.who.now.tid c.in-Some-Some.table.now c.args.fd c.args.fds.now
    ≡ exec_bytes c.args.constants.now.key c.args.who.now.pid c.args.who.now.tid (listed c.in-Some-Some.table.now c.args.fds.now) (Some c.in-Some-Some.own.now)
    (Some c.in-Some-program_of.elf.now)
comes c =
    exec_at c.args.constants.now.key (the_view c.self.inside) c.args.who.now.pid c.args.who.now.tid c.in-Some-Some.table.now c.args.fd c.args.fds.now c.in-Some.kind
    c.in-Some-Some.own.now (Some c.in-Some-program_of.elf.now)
    (sym (found_here (the_view c.self.inside) c.args.who.now.pid c.args.fd c.in-Some-Some.table.now c.open_of.result c.in-Some.field-0-0 c.in-Some.kind (there c)
    c.open_of.ensures c.in-Some.is)) (owned c) (sym (ap option_copied c.in-Some-program_of.is) ∙ c.program_of.ensures)

pub returns-clause-ok : goal.returns-clause-ok
returns-clause-ok d =
    let c = (goal.at.returns-clause-ok d).After-plan_program in
    let who = d.args.who.now in
    let key = d.args.constants.now.key in
    let table = d.in-Some-Some.table.now in
    IfOk-weaker d.plan_program.result _ _ (λ planned done. IfOk-weaker planned _ _ (λ new is. seen c
    (λ S t. Begins (exec_outcome key S who.pid who.tid t d.args.fd d.args.fds.now) S who.pid who.tid new)
    (record {
      own = d.in-Some-Some.own.now;
      there = owned c;
      can = is.can;
      small = is.small;
      opens = λ n. subst (λ (t : Table). IsOpenOf d.self.inside.objects.kinds (get t n)) (sym is.table_is)
          (listed_opens (the_view d.self.inside) who.pid table d.args.fds.now (there c) d.self.invariant.kept.valid.nearly n);
      comes = comes c ∙ exec_begins key who.pid who.tid d.in-Some-Some.own.now table d.in-Some-program_of.elf.now d.args.fds.now new is;
    })) done) d.plan_program.ensures.ok

pub returns-clause-refused : goal.returns-clause-refused
returns-clause-refused d =
    let c = (goal.at.returns-clause-refused d).After-plan_program in
    let who = d.args.who.now in
    IfOk-weaker d.plan_program.result _ _ (λ planned done. IfErr-weaker planned _ _ (λ reply is. seen c
    (λ S t. exec_outcome d.args.constants.now.key S who.pid who.tid t d.args.fd d.args.fds.now ≡ replies reply)
    (comes c ∙ is who.tid (listed d.in-Some-Some.table.now d.args.fds.now))) done) d.plan_program.ensures.refused

pub returns-clause-only : goal.returns-clause-only
returns-clause-only d =
    let c = (goal.at.returns-clause-only d).After-plan_program in
    let who = d.args.who.now in
    let key = d.args.constants.now.key in
    on_err_weaker d.plan_program.result (λ both. seen c (λ S t. IsSuccess (exec_outcome key S who.pid who.tid t d.args.fd d.args.fds.now).answer)
    (subst (λ (o : Outcome). IsSuccess o.answer) (sym (comes c))
    (exec_succeeds key who.pid who.tid (listed d.in-Some-Some.table.now d.args.fds.now) d.in-Some-Some.own.now d.in-Some-program_of.elf.now both.0 both.1)))
    d.plan_program.ensures.only
