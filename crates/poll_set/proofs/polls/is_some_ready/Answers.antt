use Rattle.std.proofs.Common.{sym, ap, ◌∙◌}
use Rattle.poll_set.specs.Polls.{is_told, sight}
use Rattle.kernel_model.proofs.Tests.{none_of}
use Rattle.poll_set.proofs.Tellings.{is_told_here, silent_here}
use Rattle.poll_set.proofs.polls.is_some_ready.Goals as goal

pub loop-subscription-preserved : goal.loop-subscription-preserved
loop-subscription-preserved c =
    let v = sight c.args.around.objects.now.kinds c.args.around.channels.now c.args.around.statuses.now c.args.around.now in
    ap is_told (silent_here c.args.around.constants.now v c.args.since c.args.table.now c.args.subscriptions.now c.loop-subscription.subscription-index _
    c.event_now.result c.loop-subscription-test.true c.event_now.ensures (none_of c.event_now.result (sym c.is_some.ensures ∙ c.if-is_some.false)))
    ∙ c.loop-subscription.invariant

pub returns-then-is_some : goal.returns-then-is_some
returns-then-is_some c =
    let v = sight c.args.around.objects.now.kinds c.args.around.channels.now c.args.around.statuses.now c.args.around.now in
    sym (is_told_here c.args.around.constants.now v c.args.since c.args.table.now c.args.subscriptions.now c.loop-subscription.subscription-index _
    c.event_now.result c.loop-subscription-test.true c.event_now.ensures (sym c.is_some.ensures ∙ c.if-is_some.true))
    ∙ c.loop-subscription.invariant
