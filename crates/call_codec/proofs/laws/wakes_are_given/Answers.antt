use Rattle.call_codec.proofs.Puts.{few_ranges}
use Rattle.call_codec.proofs.WokenOutputs.{given_at_call, woken_events, woken_message, woken_read, woken_sent, woken_word}
use Rattle.call_codec.proofs.laws.wakes_are_given.Goals as goal

pub returns-clause-at_call : goal.returns-clause-at_call
returns-clause-at_call c = given_at_call

pub returns-clause-read : goal.returns-clause-read
returns-clause-read c = woken_read

pub returns-clause-events : goal.returns-clause-events
returns-clause-events c = woken_events

pub returns-clause-message : goal.returns-clause-message
returns-clause-message c = woken_message

pub returns-clause-sent : goal.returns-clause-sent
returns-clause-sent c = woken_sent

pub returns-clause-word : goal.returns-clause-word
returns-clause-word c = woken_word

pub returns-clause-few : goal.returns-clause-few
returns-clause-few c = few_ranges
