use Rattle.std.proofs.Common.{◌≡◌, refl, sym, ap, subst, ◌∙◌}
use Rattle.std.proofs.lemmas.Result.{IfOk-weaker, on_err_weaker}
use Rattle.std.specs.FinMap.{get}
use Rattle.abi_types.specs.declared.call.Call.TheVariants as call
use Rattle.abi_types.specs.declared.who.Who.{Who}
use Rattle.kernel_model.specs.Calls.{meaning_of, takes_memory}
use Rattle.kernel_model.specs.Outcome.{IsSuccess}
use Rattle.kernel_model.specs.Release.{release}
use Rattle.kernel_model.specs.State.{State, put_all}
use Rattle.kernel_model.specs.Valid.{IsValid}
use Rattle.kernel_model.specs.View.{whole}
use Rattle.kernel_model.proofs.Tests.{same_some}
use Rattle.kernel_model.proofs.Valids.{release_valid}
use Rattle.file_tree.proofs.Behind.{on_err}
use Rattle.poll_set.specs.Polls.{poll_outcome}
use Rattle.kernel_core.proofs.Done.{done_as, done_of}
use Rattle.kernel_core.proofs.Families.{poll_does, poll_in, poll_may_lack, poll_sets_nothing}
use Rattle.kernel_core.proofs.kernel.Kernel.plain_poll.Goals as goal

pub returns : goal.returns
returns c = λ table here.
    let S = c.args.self.now in
    let who = c.args.who.now in
    let constants = c.args.constants.now in
    let subscriptions = c.args.subscriptions.now in
    let found : c.in-Some.table.now ≡ table =
    same_some _ _
    (c.in-Some.ensures.value ∙ ap (get c.self.inside.tables) (c.from.ensures ∙ ap (λ (w : Who). w.pid) c.who.view_is)
    ∙ ap (λ (X : State). get X.tables who.pid) c.self.view_is ∙ here) in
    let o = poll_in constants S who table subscriptions in
    let around = c.around-around.ensures in
    let seen : _ ≡ o.answer =
    λ i. (poll_outcome (around.constants i) (around.opens i) (around.channels i) (around.statuses i) (around.moment i) (found i) ((c.who.view_is i).since) subscriptions).answer in
    let stays : S ≡ release (put_all o.updates S) =
    sym (ap (λ us. release (put_all us S)) (poll_sets_nothing constants S who table subscriptions)
    ∙ release_valid S (subst IsValid c.self.view_is c.self.invariant.kept.valid)) in
    done_as (takes_memory (call.Poll subscriptions)) o ((meaning_of (call.Poll subscriptions)).effect constants (whole S) who table) S S c.poll.result
    (sym (poll_does constants S who table subscriptions c.requires.plain))
    (done_of (takes_memory (call.Poll subscriptions)) o S S c.poll.result (IfOk-weaker c.poll.result _ _ (λ given answered. (answered ∙ seen, stays)) c.poll.ensures.ok)
    (on_err c.poll.result (poll_may_lack subscriptions)) (on_err_weaker c.poll.result (λ succeeds. subst IsSuccess seen succeeds) c.poll.ensures.err)
    (on_err c.poll.result refl))
