use Rattle.std.proofs.Common.{◌≡◌, ◌++◌, drop}
use Rattle.kernel_model.specs.Families.Polls.{events_now}
use Rattle.poll_set.specs.Polls.{sight}
use Rattle.poll_set.proofs.polls.events_now.Given as goal

-- the events so far come before those of what is left
abbrev pub invariant-loop-subscription : goal.invariant-loop-subscription
invariant-loop-subscription l =
    l.events ++ events_now l.around.constants.now (sight l.around.objects.now.kinds l.around.channels.now l.around.statuses.now l.around.now) l.since l.table (drop l.subscription-index l.subscriptions)
    ≡ events_now l.around.constants.now (sight l.around.objects.now.kinds l.around.channels.now l.around.statuses.now l.around.now) l.since l.table l.subscriptions
