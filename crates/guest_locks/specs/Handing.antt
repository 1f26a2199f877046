-- How a lock is given to threads.
use Rattle.std.specs.Prelude.{ℕ, ◌==◌, ◌&&◌, Bool, Option, if◌then◌else◌}
use Rattle.abi_types.specs.declared.thread.Thread.{Thread}
use Rattle.maps.specs.Closure.{changed}
use Rattle.kernel_model.specs.Earliest.{earliest}
use Rattle.kernel_model.specs.Families.Locks.{given, is_not_after, is_reader, waits_for, waits_to_write}
use Rattle.kernel_model.specs.State.{Threads}

-- the threads, once the lock was given to that of this number
abbrev pub given_at : ℕ → Threads → Threads
given_at tid threads = changed (λ t thread. if t == tid then given thread else thread) threads

-- whether a thread waits for the lock to read, and since no later than this moment
abbrev pub reads_before : ℕ → Option ℕ → Thread → Bool
reads_before at limit thread = is_reader thread && is_not_after (waits_for at thread) limit

-- the threads, once the lock was given to those
abbrev pub given_before : ℕ → Option ℕ → Threads → Threads
given_before at limit threads = changed (λ t thread. if reads_before at limit thread then given thread else thread) threads

-- the threads, once it was given to those that read it next
abbrev pub given_next : ℕ → Threads → Threads
given_next at threads = given_before at (earliest (waits_to_write at) threads) threads
