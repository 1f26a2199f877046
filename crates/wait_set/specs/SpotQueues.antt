-- Who stands at each spot, by the queues.
use Rattle.std.specs.Prelude.{ℕ, Bool}
use Rattle.wait_set.specs.declared.spot.Spot.{Spot}
use Rattle.wait_set.specs.declared.spot.Spot.TheVariants.{Channel, Ended, Moment}
use Rattle.wait_set.specs.declared.spot_queues.SpotQueues.{SpotQueues}
use Rattle.wait_set.specs.Queued.{has_at}

-- whether the thread t stands in the queue of the spot
abbrev pub spot_has : SpotQueues → Spot → ℕ → Bool
spot_has queues (Channel n) t = has_at queues.channels n t
spot_has queues (Ended n) t = has_at queues.ended n t
spot_has queues (Moment n) t = has_at queues.moments n t
