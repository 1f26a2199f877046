use Rattle.std.proofs.Common.{◌≡◌, true, [], Some, refl, sym, ap, subst}
use Rattle.std.proofs.lemmas.Result.{IfErr-at_err, IfOk-at_ok}
use Rattle.std.specs.FinMap.{get}
use Rattle.abi_types.specs.declared.call.Call.TheVariants as call
use Rattle.abi_types.specs.declared.reply.Answer.TheVariants as answer
use Rattle.kernel_model.specs.Families.ClockCalls.{can_draw}
use Rattle.kernel_model.specs.Outcome.{Outcome}
use Rattle.kernel_model.specs.Start.{canary_words}
use Rattle.kernel_model.specs.State.{Table, put_all}
use Rattle.kernel_model.specs.Valid.{IsNearlyValid}
use Rattle.kernel_model.proofs.Calls.{proper}
use Rattle.kernel_model.proofs.Valids.{same_value}
use Rattle.process_calls.specs.NewPrograms.{Begins, begun_updates, exec_outcome}
use Rattle.kernel_core.proofs.Done.{answered_as, lacked, replied}
use Rattle.kernel_invariant.proofs.ForkCalls.{table_there}
use Rattle.kernel_core.proofs.kernel.Kernel.proc_exec.Goals as goal
use Rattle.kernel_core.proofs.kernel.Kernel.proc_exec.Goals.{In-Ok}

pub returns-in-Err : goal.returns-in-Err
returns-in-Err c = λ table here.
    replied _ c.args.self.now c.in-Err.reply c.requires.valid (IfErr-at_err _ c.in-Err.is c.in_ok-new.ensures.refused table here)

pub returns-in_err-new : goal.returns-in_err-new
returns-in_err-new c = λ table here.
    let S = c.args.self.now in
    let who = c.args.who.now in
    lacked true (exec_outcome c.args.constants.now.key S who.pid who.tid table c.args.fd c.args.fds.now) S S c.from_residual.result c.from_residual.ensures.0 refl
    (c.in_err-new.ensures.only table here) refl

-- the program that begins
begins : (c : In-Ok) (table : Table) → get c.args.self.now.tables c.args.who.now.pid ≡ Some table
    → Begins (exec_outcome c.args.constants.now.key c.args.self.now c.args.who.now.pid c.args.who.now.tid table c.args.fd c.args.fds.now) c.args.self.now c.args.who.now.pid
    c.args.who.now.tid c.in-Ok.new
begins c = IfOk-at_ok _ c.in-Ok.is c.in_ok-new.ensures.ok

pub begin-requires-clause-can : goal.begin-requires-clause-can
begin-requires-clause-can d = λ own there.
    let c = (goal.at.begin-requires-clause-can d).In-Ok in
    let has = table_there d.args.self.now d.args.who.now.pid d.requires.valid d.requires.there in
    let new = begins c has.0 has.1 in
    subst (λ o. can_draw canary_words o ≡ true) (same_value _ _ _ new.there there) new.can

pub begin-requires-clause-opens : goal.begin-requires-clause-opens
begin-requires-clause-opens d = λ n.
    let c = (goal.at.begin-requires-clause-opens d).In-Ok in
    let has = table_there d.args.self.now d.args.who.now.pid d.requires.valid d.requires.there in
    (begins c has.0 has.1).opens n

pub begin-requires-clause-nearly : goal.begin-requires-clause-nearly
begin-requires-clause-nearly d = λ own there.
    let c = (goal.at.begin-requires-clause-nearly d).In-Ok in
    let S = d.args.self.now in
    let who = d.args.who.now in
    let has = table_there S who.pid d.requires.valid d.requires.there in
    let new = begins c has.0 has.1 in
    subst (λ o. IsNearlyValid (put_all (begun_updates who.pid who.tid o d.in-Ok.new.table) S)) (same_value _ _ _ new.there there)
    (subst (λ (x : Outcome). IsNearlyValid (put_all x.updates S)) new.comes
    ((proper (call.ProcExec d.args.fd [] d.args.fds.now)).valid d.args.constants.now S who has.0 has.1 d.requires.valid.nearly))

pub returns : goal.returns
returns d = λ table here.
    let S = d.args.self.now in
    let new = begins (goal.at.returns d).In-Ok table here in
    answered_as _ _ S d.begin.new.self (answer.Reply d.success_with.result) (sym new.comes) (ap answer.Reply d.success_with.ensures, d.begin.ensures new.own new.there)
