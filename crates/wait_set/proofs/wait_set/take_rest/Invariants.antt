use Rattle.std.proofs.Common.{◌≡◌, ℕ, cond, take}
use Rattle.std.specs.Bool.{nat_eq}
use Rattle.wait_set.specs.declared.spot.Spot.{Spot}
use Rattle.wait_set.specs.Spots.{listed}
use Rattle.wait_set.specs.SpotQueues.{spot_has}
use Rattle.wait_set.proofs.wait_set.take_rest.Given as goal

abbrev pub invariant-loop-place : goal.invariant-loop-place
invariant-loop-place l =
    record {
      stands : (x : Spot) (t : ℕ) → spot_has l.queues x t ≡ cond (nat_eq t l.thread) (listed x l.own) (spot_has l.fn.queues x t);
      front : l.own ≡ take l.place l.spots;
    }
