use Rattle.std.proofs.Common.{◌≡◌, drop}
use Rattle.kernel_model.specs.Families.Polls.{events_now}
use Rattle.poll_set.specs.Polls.{is_told, sight}
use Rattle.poll_set.proofs.polls.is_some_ready.Given as goal

-- whether one is ready is decided by those that are left
abbrev pub invariant-loop-subscription : goal.invariant-loop-subscription
invariant-loop-subscription l =
    is_told (events_now l.around.constants.now (sight l.around.objects.now.kinds l.around.channels.now l.around.statuses.now l.around.now) l.since l.table (drop l.subscription-index l.subscriptions))
    ≡ is_told (events_now l.around.constants.now (sight l.around.objects.now.kinds l.around.channels.now l.around.statuses.now l.around.now) l.since l.table l.subscriptions)
