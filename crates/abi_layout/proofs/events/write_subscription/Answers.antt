use Rattle.std.proofs.Common.{rules}
use Rattle.abi_layout.specs.Events.{subscription_layout, subscription_values}
use Rattle.abi_layout.proofs.Bytes.{laid_out}
use Rattle.abi_layout.proofs.Proper.{subscription_proper}
use Rattle.abi_layout.proofs.events.write_subscription.Goals as goal

pub returns : goal.returns
returns c =
    let subscription = c.args.subscription.now in
    laid_out (subscription_layout subscription.what) (subscription_values subscription) _ (cc)
    (subscription_proper subscription.what) (search rules)
