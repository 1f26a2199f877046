-- Calls on locks and condition variables.
use Rattle.std.specs.Prelude.{ℕ, Bool, true, false, [], ◌∷◌, Option, None, Some, if◌then◌else◌}
use Rattle.abi_base.specs.Errno.{number_of}
use Rattle.abi_base.specs.declared.errno.Errno.{Errno}
use Rattle.abi_base.specs.declared.errno.Errno.TheVariants.{Again, Deadlk, Perm, Success, TimedOut}
use Rattle.abi_structures.specs.Events.{type_of}
use Rattle.abi_structures.specs.declared.events.Event.{Event}
use Rattle.abi_structures.specs.declared.events.Subscription.{Subscription}
use Rattle.abi_structures.specs.declared.events.What.{What}
use Rattle.abi_structures.specs.declared.events.What.TheVariants.{Condvar, LockRdlock, LockWrlock}
use Rattle.abi_types.specs.declared.reply.Answer.TheVariants as answer
use Rattle.abi_types.specs.declared.reply.Payload.TheVariants as payload
use Rattle.abi_types.specs.declared.reply.Reply.{Reply}
use Rattle.abi_types.specs.declared.reply.WordWrites.{WordWrites}
use Rattle.abi_types.specs.declared.reply.WordWrites.TheVariants.{Zero, One, Two}
use Rattle.abi_types.specs.declared.thread.Stage.{Stage}
use Rattle.abi_types.specs.declared.thread.Stage.TheVariants.{Granted}
use Rattle.kernel_model.specs.Families.LockWords.{holding_of}
use Rattle.kernel_model.specs.Families.Locks.{Taking, deadlock, handed_own, handed_word, is_late, is_written_by, managed_word, queues, release_of, released_word, retaking, signalled_own, signalled_word, some_waits, taking, takes, too_many, unlocked_own}
use Rattle.kernel_model.specs.Families.Events.{event_of}
use Rattle.kernel_model.specs.Meaning.{Meaning, answering}
use Rattle.kernel_model.specs.Outcome.{Outcome, parks, replies}
use Rattle.kernel_model.specs.OwnChanges.{OwnChange, hands_lock_on, keeps_own, lets_lock_go, signals_some}
use Rattle.kernel_model.specs.Reply.{refused, success}
use Rattle.kernel_model.specs.State.{ProcessState, set_process}

-- one word of the caller's memory is written
abbrev pub writes_word : ℕ → ℕ → WordWrites
writes_word address word = One (record { address = address; word = word })

-- the reply by which it is written
abbrev pub word_reply : ℕ → ℕ → Reply
word_reply address word = record (success 0 0) { writes = writes_word address word }

-- ---- lock_unlock

-- the thread may not, or the word becomes this and the process is left so
abbrev pub unlocks_to : ℕ → ℕ → ProcessState → Option ℕ → Outcome
unlocks_to p lock own None = replies (refused Perm)
unlocks_to p lock own (Some word) = record { answer = answer.Reply (word_reply lock word); updates = set_process p own ∷ [] }

abbrev pub unlock_in : ℕ → ℕ → ℕ → ℕ → Option ProcessState → Outcome
unlock_in p t lock word None = replies (refused Perm)
unlock_in p t lock word (Some own) = unlocks_to p lock (unlocked_own lock word t own) (released_word (release_of t word) lock own.threads)

-- The thread lets go of the lock at this address, whose word is this; where it was the last that had it, the lock is handed on.
abbrev pub lock_unlock : ℕ → ℕ → Meaning
lock_unlock lock word = record (answering (Perm ∷ []) (success 0 0)) {
  effect = λ constants v who table. unlock_in who.pid who.tid lock word (v.process who.pid);
  own = lets_lock_go lock word;
}

-- ---- condvar_signal

abbrev pub signal_in : ℕ → ℕ → ℕ → Option ProcessState → Outcome
signal_in p condvar n None = replies (success 0 0)
signal_in p condvar n (Some own) = record {
  answer = answer.Reply (word_reply condvar (signalled_word n condvar own.threads));
  updates = set_process p (signalled_own condvar n own) ∷ [];
}

-- As many of the threads that wait at the condition variable at this address are signalled, those that have waited longest.
abbrev pub condvar_signal : ℕ → ℕ → Meaning
condvar_signal condvar n = record (answering [] (success 0 0)) {
  effect = λ constants v who table. signal_in who.pid condvar n (v.process who.pid);
  own = signals_some condvar n;
}

-- ---- polls of locks

-- the event of the first subscription, with this error
abbrev pub lock_event : ℕ → What → Errno → Event
lock_event userdata what errno = record (event_of userdata (type_of what)) { error = number_of errno }

-- the reply with this one event, by which these words are written
abbrev pub event_reply : Event → WordWrites → Reply
event_reply event writes = record (success 1 0) { payload = payload.Event event; writes = writes }

abbrev pub tells : ℕ → What → Errno → WordWrites → Outcome
tells userdata what errno writes = replies (event_reply (lock_event userdata what errno) writes)

-- what a thread comes to that asks for the lock at this address; where it gets the lock its event has this error
abbrev pub taken_as : ℕ → What → Errno → ℕ → ℕ → Taking → Outcome
taken_as userdata what errno lock word deadlock = tells userdata what Deadlk Zero
taken_as userdata what errno lock word too_many = tells userdata what Again Zero
taken_as userdata what errno lock word (takes new) = tells userdata what errno (writes_word lock new)
taken_as userdata what errno lock word queues = parks (writes_word lock (managed_word word))

-- TIMEDOUT, if the deadline came first
abbrev pub error_if : Bool → Errno
error_if late = if late then TimedOut else Success

-- whether others wait for the lock in a process
abbrev pub others_wait : ℕ → Option ProcessState → Bool
others_wait lock None = false
others_wait lock (Some own) = some_waits lock own.threads

-- A poll of a lock: a thread that asks for it. At its wake it was given the lock, or its time has come.
abbrev pub lock_outcome : ℕ → What → Bool → ℕ → ℕ → ℕ → Option Stage → Option ProcessState → Outcome
lock_outcome userdata what reads t lock word None own = taken_as userdata what Success lock word (taking reads t word (others_wait lock own))
lock_outcome userdata what reads t lock word (Some (Granted late)) own = tells userdata what Success Zero
lock_outcome userdata what reads t lock word (Some stage) own = tells userdata what TimedOut Zero

-- ---- polls of condition variables

-- the thread waits, and the lock is handed on
abbrev pub sleeps_in : ℕ → ℕ → ℕ → Option ProcessState → Outcome
sleeps_in p condvar lock None = parks Zero
sleeps_in p condvar lock (Some own) = record {
  answer = answer.Parked (Two (record { address = condvar; word = 1 }) (record { address = lock; word = handed_word lock own.threads }));
  updates = set_process p (handed_own lock own) ∷ [];
}

abbrev pub sleeps_if : Bool → ℕ → What → ℕ → ℕ → ℕ → Option ProcessState → Outcome
sleeps_if true userdata what p condvar lock own = sleeps_in p condvar lock own
sleeps_if false userdata what p condvar lock own = tells userdata what Perm Zero

-- A poll of a condition variable: a thread that has the lock to write lets it go and waits. At its wake it was signalled or its time has
-- come, and it takes the lock again, or waits for it; and once it was given the lock it goes on.
abbrev pub condition_outcome : ℕ → What → ℕ → ℕ → ℕ → ℕ → ℕ → Option Stage → Option ProcessState → Outcome
condition_outcome userdata what p t condvar lock word None own =
    sleeps_if (is_written_by t (holding_of word)) userdata what p condvar lock own
condition_outcome userdata what p t condvar lock word (Some (Granted late)) own = tells userdata what (error_if late) Zero
condition_outcome userdata what p t condvar lock word (Some stage) own =
    taken_as userdata what (error_if (is_late stage)) lock word (retaking t word (others_wait lock own))

-- ---- polls whose first subscription is of a lock or a condition variable

abbrev pub waited_outcome : ℕ → What → ℕ → ℕ → Option Stage → Option ProcessState → Outcome
waited_outcome userdata (LockRdlock lock word scope) p t stage own =
    lock_outcome userdata (LockRdlock lock word scope) true t lock word stage own
waited_outcome userdata (LockWrlock lock word scope) p t stage own =
    lock_outcome userdata (LockWrlock lock word scope) false t lock word stage own
waited_outcome userdata (Condvar condvar condvar_word lock lock_word condvar_scope lock_scope) p t stage own =
    condition_outcome userdata (Condvar condvar condvar_word lock lock_word condvar_scope lock_scope) p t condvar lock lock_word stage own
waited_outcome userdata other p t stage own = parks Zero

-- what such a poll does to its process: at a condition variable the lock is handed on
abbrev pub waited_own : What → OwnChange
waited_own (Condvar condvar condvar_word lock lock_word condvar_scope lock_scope) = hands_lock_on lock
waited_own other = keeps_own

abbrev pub lock_poll : Subscription → Meaning
lock_poll first = record (answering [] (success 0 0)) {
  effect = λ constants v who table. waited_outcome first.userdata first.what who.pid who.tid who.stage (v.process who.pid);
  own = waited_own first.what;
  takes_memory = true;
  may_wait = true;
  by_stage = true;
}
