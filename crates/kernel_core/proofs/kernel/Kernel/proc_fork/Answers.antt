use Rattle.std.proofs.Common.{true, refl, sym, ap, subst, ◌∙◌}
use Rattle.std.specs.FinMap.{get}
use Rattle.abi_types.specs.declared.reply.Answer.TheVariants as answer
use Rattle.kernel_model.specs.Families.DescriptorCalls.{lowest_free}
use Rattle.kernel_model.specs.Families.ForkCalls.{fork_at, fork_updates}
use Rattle.kernel_model.specs.Outcome.{IsSuccess, Outcome}
use Rattle.kernel_model.specs.Release.{release}
use Rattle.kernel_model.specs.State.{put_all}
use Rattle.kernel_core.proofs.Done.{answered_as, lacked, replied}
use Rattle.kernel_invariant.proofs.ForkCalls.{child_planned, fork_is, own_there, table_there}
use Rattle.kernel_core.proofs.kernel.Kernel.proc_fork.Goals as goal

pub returns-in-Err : goal.returns-in-Err
returns-in-Err c = λ table here.
    replied _ c.args.self.now c.in-Err.reply c.requires.valid (c.in-Err.ensures.refused table here)

pub bear-requires : goal.bear-requires
bear-requires c =
    let S = c.args.self.now in
    let who = c.args.who.now in
    let table = table_there S who.pid c.requires.valid c.requires.there in
    let own = own_there S who.pid c.requires.valid c.requires.there in
    (c.args.left, child_planned S c.args.left who.pid who.tid own.0 table.0 c.in-Ok.plan own.1 table.1 (c.in-Ok.ensures.ok table.0 own.0 table.1 own.1))

pub returns-in_err-bear : goal.returns-in_err-bear
returns-in_err-bear c = λ table here.
    let S = c.args.self.now in
    let who = c.args.who.now in
    let own = own_there S who.pid c.requires.valid c.requires.there in
    let is = fork_is c.args.left who.pid who.tid own.0 table c.in-Ok.plan (get S.processes who.pid) own.1 (c.in-Ok.ensures.ok table own.0 here own.1) in
    lacked true (fork_at c.args.left who.pid who.tid (get S.processes who.pid) table (lowest_free table)) S c.bear.new.self c.from_residual.result c.from_residual.ensures.0 refl
    (subst (λ (o : Outcome). IsSuccess o.answer) (sym is) refl) c.in_err-bear.ensures.err

pub returns : goal.returns
returns c = λ table here.
    let S = c.args.self.now in
    let who = c.args.who.now in
    let plan = c.in-Ok.plan in
    let own = own_there S who.pid c.requires.valid c.requires.there in
    let planned = c.in-Ok.ensures.ok table own.0 here own.1 in
    answered_as _ _ S c.bear.new.self (answer.Reply c.fork_reply.result) (sym (fork_is c.args.left who.pid who.tid own.0 table plan (get S.processes who.pid) own.1 planned)) (
      ap answer.Reply c.fork_reply.ensures,
      c.in_ok-bear.ensures.ok table own.0 (ap (get S.tables) planned.parent_is ∙ here) (ap (get S.processes) planned.parent_is ∙ own.1)
          ∙ (λ i. release (put_all (fork_updates (planned.parent_is i) (planned.tid_is i) own.0 table plan.fd) S)),
    )
