use Rattle.std.proofs.Common.{◌+◌, drop, sym, ap, ◌∙◌}
use Rattle.kernel_model.specs.Deadlines.{soon}
use Rattle.kernel_model.specs.Families.Polls.{sooner, soonest}
use Rattle.poll_set.proofs.Soonest.{clock_first, none_left}
use Rattle.poll_set.proofs.clocks.soonest.Goals as goal

pub loop-subscription-preserved : goal.loop-subscription-preserved
loop-subscription-preserved c =
    let i = c.loop-subscription.subscription-index in
    ap (λ found. sooner found (soon (soonest c.args.constants.now c.args.since (drop (i + 1) c.args.subscriptions.now))))
    (c.sooner-found.ensures ∙ ap (sooner c.loop-subscription.found) c.deadline_in.ensures)
    ∙ clock_first c.args.constants.now c.args.since c.args.subscriptions.now i _ c.loop-subscription.found c.loop-subscription-test.true
    ∙ c.loop-subscription.invariant

pub returns : goal.returns
returns c =
    sym (none_left c.args.constants.now c.args.since c.args.subscriptions.now c.loop-subscription.subscription-index c.loop-subscription.found c.loop-subscription-test.false)
    ∙ c.loop-subscription.invariant
