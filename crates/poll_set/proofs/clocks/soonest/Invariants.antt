use Rattle.std.proofs.Common.{◌≡◌, drop}
use Rattle.kernel_model.specs.Deadlines.{soon}
use Rattle.kernel_model.specs.Families.Polls.{sooner, soonest}
use Rattle.poll_set.proofs.clocks.soonest.Given as goal

-- what was found and what is left come to the soonest of all
abbrev pub invariant-loop-subscription : goal.invariant-loop-subscription
invariant-loop-subscription l =
    sooner l.found (soon (soonest l.constants l.since (drop l.subscription-index l.subscriptions))) ≡ soon (soonest l.constants l.since l.subscriptions)
