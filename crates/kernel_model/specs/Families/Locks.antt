-- Locks and condition variables: which threads wait for them, and how a lock is handed on.
use Rattle.std.specs.Prelude.{ℕ, suc, zero, ◌+◌, ◌-◌, ◌^◌, ◌==◌, ◌&&◌, bit_or, nat_lt, not, Bool, true, false, ◌∷◌, Option, None, Some, is_some, if◌then◌else◌}
use Rattle.std.specs.FinMap.{get}
use Rattle.abi_structures.specs.declared.events.What.{What}
use Rattle.abi_structures.specs.declared.events.What.TheVariants.{Condvar, LockRdlock, LockWrlock}
use Rattle.abi_types.specs.declared.call.Call.{Call}
use Rattle.abi_types.specs.declared.call.Call.TheVariants.{Poll}
use Rattle.abi_types.specs.declared.thread.Stage.{Stage}
use Rattle.abi_types.specs.declared.thread.Stage.TheVariants.{Begun, Signalled, Queued, Granted}
use Rattle.abi_types.specs.declared.thread.Thread.{Thread}
use Rattle.abi_types.specs.declared.thread.Thread.TheVariants.{Runnable, Waits}
use Rattle.maps.specs.Closure.{changed}
use Rattle.maps.specs.Maps.{least_key, total}
use Rattle.kernel_model.specs.Earliest.{earliest, is_before, is_first}
use Rattle.kernel_model.specs.Families.LockWords.{Holding, unheld, written_by, read_by, holding_of}
use Rattle.kernel_model.specs.State.{ProcessState, Threads}

-- ---- what a thread waits for

-- what a poll waits for in the first place
abbrev pub first_awaited : Call → Option What
first_awaited (Poll (first ∷ rest)) = Some first.what
first_awaited other = None

abbrev pub is_lock : Option What → Bool
is_lock (Some (LockRdlock lock word scope)) = true
is_lock (Some (LockWrlock lock word scope)) = true
is_lock other = false

abbrev pub is_condition : Option What → Bool
is_condition (Some (Condvar condvar condvar_word lock lock_word condvar_scope lock_scope)) = true
is_condition other = false

-- the moment, if the addresses are one
abbrev pub at_address : ℕ → ℕ → ℕ → Option ℕ
at_address wanted address moment = if address == wanted then Some moment else None

-- since when a thread waits for the lock at this address that waits for this and has come so far: since its call, or since it has left
-- its condition variable
abbrev pub awaits_lock : ℕ → Option What → ℕ → Stage → Option ℕ
awaits_lock at (Some (LockRdlock lock word scope)) since Begun = at_address at lock since
awaits_lock at (Some (LockWrlock lock word scope)) since Begun = at_address at lock since
awaits_lock at (Some (Condvar condvar condvar_word lock lock_word condvar_scope lock_scope)) since (Queued moment late) = at_address at lock moment
awaits_lock at what since stage = None

-- since when it waits at the condition variable at this address
abbrev pub awaits_signal : ℕ → Option What → ℕ → Stage → Option ℕ
awaits_signal at (Some (Condvar condvar condvar_word lock lock_word condvar_scope lock_scope)) since Begun = at_address at condvar since
awaits_signal at what since stage = None

abbrev pub waits_for : ℕ → Thread → Option ℕ
waits_for at Runnable = None
waits_for at (Waits call since until stage) = awaits_lock at (first_awaited call) since stage

abbrev pub sleeps_at : ℕ → Thread → Option ℕ
sleeps_at at Runnable = None
sleeps_at at (Waits call since until stage) = awaits_signal at (first_awaited call) since stage

-- whether a thread waits for a lock to read; else it is to write
abbrev pub is_to_read : Option What → Bool
is_to_read (Some (LockRdlock lock word scope)) = true
is_to_read other = false

abbrev pub is_reader : Thread → Bool
is_reader Runnable = false
is_reader (Waits call since until stage) = is_to_read (first_awaited call)

-- whether some thread waits for the lock, and whether some waits at the condition variable
abbrev pub some_waits : ℕ → Threads → Bool
some_waits at threads = is_some (least_key (λ t thread. is_some (waits_for at thread)) threads)

abbrev pub some_sleeps : ℕ → Threads → Bool
some_sleeps at threads = is_some (least_key (λ t thread. is_some (sleeps_at at thread)) threads)

-- ---- which threads a lock is handed to

-- the thread that has waited longest for the lock
abbrev pub front : ℕ → Threads → Option ℕ
front at threads = least_key (λ t thread. is_first (waits_for at) threads (waits_for at thread)) threads

-- since when a thread waits for the lock to write
abbrev pub waits_to_write : ℕ → Thread → Option ℕ
waits_to_write at thread = if is_reader thread then None else waits_for at thread

-- whether a moment isn't behind another one, if there are both; and there is none before none
abbrev pub is_not_after : Option ℕ → Option ℕ → Bool
is_not_after None other = false
is_not_after (Some moment) other = not (is_before moment other)

-- whether a thread waits for the lock to read, and none that waits for it to write has waited longer
abbrev pub reads_next : ℕ → Threads → Thread → Bool
reads_next at threads thread = is_reader thread && is_not_after (waits_for at thread) (earliest (waits_to_write at) threads)

-- To whom a lock is handed that is let go: to nobody, to the thread of this number to write, or to all that wait to read and stand before
-- any that waits to write.
pub data Next : Type 0 where
  nobody : Next
  one_writer : ℕ → Next
  all_readers : Next

abbrev pub reads_in : Option Thread → Bool
reads_in None = false
reads_in (Some thread) = is_reader thread

abbrev pub next_by : Threads → Option ℕ → Next
next_by threads None = nobody
next_by threads (Some t) = if reads_in (get threads t) then all_readers else one_writer t

abbrev pub next_of : ℕ → Threads → Next
next_of at threads = next_by threads (front at threads)

-- whether the lock is handed to the thread t
abbrev pub is_next : Next → ℕ → Threads → ℕ → Thread → Bool
is_next nobody at threads t thread = false
is_next (one_writer u) at threads t thread = t == u
is_next all_readers at threads t thread = reads_next at threads thread

-- whether a deadline came before a signal; of a thread that is still at its condition variable and goes on, it did
abbrev pub is_late : Stage → Bool
is_late Begun = true
is_late Signalled = false
is_late (Queued moment late) = late
is_late (Granted late) = late

-- the thread, once the lock was given to it
abbrev pub given : Thread → Thread
given Runnable = Runnable
given (Waits call since until stage) = Waits call since until (Granted (is_late stage))

-- the threads once the lock was handed on
abbrev pub handed : ℕ → Threads → Threads
handed at threads = changed (λ t thread. if is_next (next_of at threads) at threads t thread then given thread else thread) threads

-- how many read it then
abbrev pub count_next : ℕ → Threads → ℕ
count_next at threads = total (λ thread. if reads_next at threads thread then 1 else 0) threads

-- bit 31 of the word of a lock: the kernel knows of threads that wait for it
abbrev pub managed : ℕ
managed = 2 ^ 31

abbrev pub managed_if : Bool → ℕ
managed_if waits = if waits then managed else 0

abbrev pub low_word : Next → ℕ → Threads → ℕ
low_word nobody at threads = 0
low_word (one_writer u) at threads = 2 ^ 30 + u
low_word all_readers at threads = count_next at threads

-- the lock's word then: who has it, and whether others wait
abbrev pub handed_word : ℕ → Threads → ℕ
handed_word at threads = low_word (next_of at threads) at threads + managed_if (some_waits at (handed at threads))

-- ---- letting a lock go

-- What it comes to that thread t lets go of the lock with this word: it may not; others have the lock still to read, and the word is this;
-- or the lock is handed on.
pub data Release : Type 0 where
  refuses : Release
  leaves : ℕ → Release
  hands_on : Release

abbrev pub release_as : ℕ → ℕ → Holding → Release
release_as t word unheld = refuses
release_as t word (written_by owner) = if owner == t then hands_on else refuses
release_as t word (read_by readers) = if nat_lt 1 readers then leaves (word - 1) else hands_on

abbrev pub release_of : ℕ → ℕ → Release
release_of t word = release_as t word (holding_of word)

-- the threads, and the lock's word, after it
abbrev pub released_threads : Release → ℕ → Threads → Threads
released_threads refuses at threads = threads
released_threads (leaves word) at threads = threads
released_threads hands_on at threads = handed at threads

abbrev pub released_word : Release → ℕ → Threads → Option ℕ
released_word refuses at threads = None
released_word (leaves word) at threads = Some word
released_word hands_on at threads = Some (handed_word at threads)

-- ---- signals

-- the thread, once it was signalled
abbrev pub called : Thread → Thread
called Runnable = Runnable
called (Waits call since until stage) = Waits call since until Signalled

-- the thread that has waited longest at the condition variable
abbrev pub first_sleeper : ℕ → Threads → Option ℕ
first_sleeper at threads = least_key (λ t thread. is_first (sleeps_at at) threads (sleeps_at at thread)) threads

abbrev pub with_called : Option ℕ → Threads → Threads
with_called None threads = threads
with_called (Some t) threads = changed (λ u thread. if u == t then called thread else thread) threads

-- the threads once so many of those that wait at the condition variable were signalled, those that have waited longest
abbrev pub signalled : ℕ → ℕ → Threads → Threads
signalled zero at threads = threads
signalled (suc n) at threads = signalled n at (with_called (first_sleeper at threads) threads)

-- the condition variable's word then
abbrev pub signalled_word : ℕ → ℕ → Threads → ℕ
signalled_word n at threads = if some_sleeps at (signalled n at threads) then 1 else 0

-- ---- the process

-- the process with these threads
abbrev pub with_threads : ProcessState → Threads → ProcessState
with_threads own threads = record own { threads = threads }

-- the process as its thread t lets go of the lock with this word, as it waits at a condition variable with this lock, and as so many are signalled
abbrev pub unlocked_own : ℕ → ℕ → ℕ → ProcessState → ProcessState
unlocked_own at word t own = with_threads own (released_threads (release_of t word) at own.threads)

abbrev pub handed_own : ℕ → ProcessState → ProcessState
handed_own at own = with_threads own (handed at own.threads)

abbrev pub signalled_own : ℕ → ℕ → ProcessState → ProcessState
signalled_own at n own = with_threads own (signalled n at own.threads)

-- ---- taking a lock

-- What it comes to that thread t asks for a lock: it has it to write already; it is had by as many to read as there may be; it gets it, and the
-- word is this; or it waits.
pub data Taking : Type 0 where
  deadlock : Taking
  too_many : Taking
  takes : ℕ → Taking
  queues : Taking

abbrev pub takes_to_write : ℕ → Holding → Taking
takes_to_write t unheld = takes (2 ^ 30 + t)
takes_to_write t (written_by owner) = queues
takes_to_write t (read_by readers) = queues

abbrev pub takes_to_read : Holding → Taking
takes_to_read unheld = takes 1
takes_to_read (written_by owner) = queues
takes_to_read (read_by readers) = if nat_lt readers (2 ^ 30 - 1) then takes (readers + 1) else too_many

abbrev pub is_written_by : ℕ → Holding → Bool
is_written_by t (written_by owner) = owner == t
is_written_by t other = false

abbrev pub taking_if : Bool → Bool → Taking → Taking
taking_if true waits taken = deadlock
taking_if false true taken = queues
taking_if false false taken = taken

-- by whether it is to read, by the word, and by whether others wait for it
abbrev pub taking : Bool → ℕ → ℕ → Bool → Taking
taking reads t word waits =
    taking_if (is_written_by t (holding_of word)) waits (if reads then takes_to_read (holding_of word) else takes_to_write t (holding_of word))

-- the word once a thread more waits
abbrev pub managed_word : ℕ → ℕ
managed_word word = bit_or word managed

-- a thread that has left its condition variable takes the lock to write, where nobody has it and nobody waits, and else it waits
abbrev pub retaking : ℕ → ℕ → Bool → Taking
retaking t word waits = if waits then queues else takes_to_write t (holding_of word)

-- ---- the word of a lock at a wake

-- what is waited for, with this word of the lock in the place of the one that its call had
abbrev pub with_lock_word : ℕ → What → What
with_lock_word word (Condvar condvar condvar_word lock lock_word condvar_scope lock_scope) =
    Condvar condvar condvar_word lock word condvar_scope lock_scope
with_lock_word word (LockRdlock lock old scope) = LockRdlock lock word scope
with_lock_word word (LockWrlock lock old scope) = LockWrlock lock word scope
with_lock_word word other = other

abbrev pub with_word : ℕ → Call → Call
with_word word (Poll (first ∷ rest)) = Poll (record first { what = with_lock_word word first.what } ∷ rest)
with_word word other = other
