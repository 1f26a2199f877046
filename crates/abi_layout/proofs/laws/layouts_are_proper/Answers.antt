use Rattle.abi_layout.proofs.Proper.{event_proper, subscription_proper}
use Rattle.abi_layout.proofs.laws.layouts_are_proper.Goals as goal

pub returns-clause-event : goal.returns-clause-event
returns-clause-event c = event_proper

pub returns-clause-subscription : goal.returns-clause-subscription
returns-clause-subscription c = subscription_proper
