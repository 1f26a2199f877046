-- Queues of threads: those that wait for a lock, for a lock to write, or at a condition variable.
use Rattle.std.specs.Prelude.{ℕ, ◌<◌, ◌≤◌, ◌^◌, nat_le, Option, Some, None, IsSome, if◌then◌else◌}
use Rattle.std.specs.FinMap.{get, len}
use Rattle.abi_types.specs.declared.thread.Thread.{Thread}
use Rattle.guest_locks.specs.declared.queues.Waiter.{Waiter}
use Rattle.guest_locks.specs.declared.waits.Queue.{Queue}
use Rattle.guest_locks.specs.declared.waits.Queue.TheVariants.{Lock, Writers, Sleepers}
use Rattle.maps.specs.Maps.{least_key}
use Rattle.kernel_model.specs.Earliest.{is_first}
use Rattle.kernel_model.specs.Families.Locks as model
use Rattle.kernel_model.specs.State.{Threads}

-- A process has no more than 64 threads, and the words of locks have room for their numbers.
pub record AreFew (threads : Threads) : Type 0 where
  pub low : (t : ℕ) → IsSome (get threads t) → t < 2 ^ 30
  pub few : len threads ≤ 64

-- since when a thread stands in the queue
abbrev pub since_in : Queue → Thread → Option ℕ
since_in (Lock at) = model.waits_for at
since_in (Writers at) = model.waits_to_write at
since_in (Sleepers at) = model.sleeps_at at

-- the thread that has stood in the queue longest
abbrev pub first_in : Queue → Threads → Option ℕ
first_in queue threads = least_key (λ t thread. is_first (since_in queue) threads (since_in queue thread)) threads

-- the one of two that has waited longer, where the second comes later in the order of threads
abbrev pub ahead : Option Waiter → Waiter → Waiter
ahead None second = second
ahead (Some first) second = if nat_le first.since second.since then first else second

-- the thread of this number beside what was found of those before it, if it stands in the queue
abbrev pub beside : Option Waiter → ℕ → Option ℕ → Option Waiter
beside found tid None = found
beside found tid (Some since) = Some (ahead found (record { tid = tid; since = since }))

-- the thread's number
abbrev pub number_of : Option Waiter → Option ℕ
number_of None = None
number_of (Some waiter) = Some waiter.tid
