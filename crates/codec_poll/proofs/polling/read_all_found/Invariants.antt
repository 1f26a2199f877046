use Rattle.std.proofs.Common.{◌≡◌, ◌-◌}
use Rattle.codec_arguments.proofs.Gathering.{after_read}
use Rattle.codec_poll.specs.Poll.{all_found}
use Rattle.codec_poll.proofs.polling.read_all_found.Given as goal

-- the subscriptions so far, and those that are left, are all
abbrev pub invariant-loop : goal.invariant-loop
invariant-loop l = after_read l.found (all_found l.memory l.next (l.count - l.counter)) ≡ all_found l.memory l.at l.count
