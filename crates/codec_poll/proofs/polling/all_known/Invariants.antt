use Rattle.std.proofs.Common.{◌≡◌, drop}
use Rattle.codec_arguments.proofs.Gathering.{after_read}
use Rattle.codec_poll.specs.Poll.{all_known}
use Rattle.codec_poll.proofs.polling.all_known.Given as goal

-- the subscriptions so far, and those that are left, are all
abbrev pub invariant-loop-subscription : goal.invariant-loop-subscription
invariant-loop-subscription l = after_read l.subscriptions (all_known (drop l.subscription-index l.found)) ≡ all_known l.found
