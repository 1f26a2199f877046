use Rattle.std.proofs.Common.{◌≡◌, ◌&&◌, ℕ, not, take}
use Rattle.std.specs.Bool.{nat_eq}
use Rattle.wait_set.specs.declared.spot.Spot.{Spot}
use Rattle.wait_set.specs.Spots.{listed}
use Rattle.wait_set.specs.SpotQueues.{spot_has}
use Rattle.wait_set.specs.Waits.{lasts}
use Rattle.wait_set.proofs.spot_queues.SpotQueues.leave_moments.Given as goal

abbrev pub invariant-loop-spot : goal.invariant-loop-spot
invariant-loop-spot l =
    (x : Spot) (t : ℕ) → spot_has l.self x t ≡ (spot_has l.fn.self x t && not ((listed x (take l.spot-index l.spots) && not (lasts x)) && nat_eq t l.thread))
