use Rattle.std.proofs.Common.{◌≡◌, ◌++◌, drop}
use Rattle.std.specs.Prelude.{option_copied}
use Rattle.kernel_parts.specs.Noted.{polled_places}
use Rattle.kernel_parts.proofs.waiting.add_awaited.Given as goal

-- the places so far come before those of what is left
abbrev pub invariant-loop-subscription : goal.invariant-loop-subscription
invariant-loop-subscription l =
    l.spots.items ++ polled_places l.objects.kinds (option_copied l.table) (drop l.subscription-index l.subscriptions)
    ≡ l.fn.spots.items ++ polled_places l.objects.kinds (option_copied l.table) l.subscriptions
