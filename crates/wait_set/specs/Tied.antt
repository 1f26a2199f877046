-- How the fields of a set of waiting threads belong together.
--     IsFlagged p threads numbers      the set has the numbers of the threads that pass p, and room for each thread
--     IsTied      who stands in which queue, and is in which set, is as each thread's entry has it; and there is room to note that each is gone
use Rattle.std.specs.Prelude.{◌≡◌, ℕ, ◌+◌, ◌≤◌, Bool}
use Rattle.std.specs.FinMap.{get, len}
use Rattle.maps.specs.Closure.{member}
use Rattle.wait_set.specs.declared.spot.Spot.{Spot}
use Rattle.wait_set.specs.declared.waiting.Waiting.{Waiting}
use Rattle.wait_set.specs.declared.spot_queues.SpotQueues.{SpotQueues}
use Rattle.wait_set.specs.Numbers.{Numbers, IsAscending}
use Rattle.wait_set.specs.SpotQueues.{spot_has}
use Rattle.wait_set.specs.Waits.{WaitMap, counted, flag, lists, is_ready, is_everywhere, is_left, is_running}

pub record IsFlagged (p : Waiting → Bool) (threads : WaitMap) (numbers : Numbers) : Type 0 where
  pub members : (t : ℕ) → member t numbers.list ≡ flag p (get threads t)
  pub ascending : IsAscending numbers.list
  pub room : len threads ≤ numbers.room

pub record IsTied (threads : WaitMap) (queues : SpotQueues) (ready everywhere left : Numbers) (running gone room : ℕ) : Type 0 where
  pub queued : (x : Spot) (t : ℕ) → spot_has queues x t ≡ flag (lists x) (get threads t)
  pub ready_set : IsFlagged is_ready threads ready
  pub everywhere_set : IsFlagged is_everywhere threads everywhere
  pub left_set : IsFlagged is_left threads left
  pub runners : running ≡ counted is_running threads
  pub gone_room : len threads + gone ≤ room
