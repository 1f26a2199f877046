-- Who stands at which number.
--     IsLeast first rest      the thread is below each of the others
--     has_at queues n t      whether the thread t stands at n
--     NoneEmpty queues      no queue is empty
use Rattle.std.specs.Prelude.{◌≡◌, ◌≢◌, ◌<◌, ℕ, Bool, true, false, Option, None, Some}
use Rattle.std.specs.Ordering.{nat_cmp}
use Rattle.std.specs.FinMap.{FinMap, get, contains_key, len}

-- a set of threads
abbrev pub QueueSet : Type 0
QueueSet = FinMap nat_cmp (Unit {0})

abbrev pub IsLeast : ℕ → QueueSet → Type 0
IsLeast first rest = (t : ℕ) → contains_key rest t ≡ true → first < t

-- the numbers, each with the set of threads that stand there
abbrev pub QueueMap : Type 0
QueueMap = FinMap nat_cmp QueueSet

-- whether the thread stands in the queue
abbrev pub stands_in : Option QueueSet → ℕ → Bool
stands_in None t = false
stands_in (Some queue) t = contains_key queue t

abbrev pub has_at : QueueMap → ℕ → ℕ → Bool
has_at queues n t = stands_in (get queues n) t

pub record NoneEmpty (queues : QueueMap) : Type 0 where
  pub some : (n : ℕ) (queue : QueueSet) → get queues n ≡ Some queue → len queue ≢ 0
