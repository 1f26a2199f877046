-- What a call leaves of the threads of its process, and of what the process has made.
use Rattle.std.specs.Prelude.{◌≡◌, ◌≢◌, ◌⊎◌, ℕ, ◌+◌, ◌≤◌, Bool, true, false, Option, None, Some, IsSome, if◌then◌else◌}
use Rattle.std.specs.FinMap.{get}
use Rattle.std.specs.Option.{option_map}
use Rattle.clock_random.specs.Random.{words_of}
use Rattle.abi_types.specs.declared.reply.Answer.{Answer}
use Rattle.abi_types.specs.declared.reply.Answer.TheVariants as answer
use Rattle.abi_types.specs.declared.call.Call.{Call}
use Rattle.abi_types.specs.declared.call.Call.TheVariants as call
use Rattle.abi_types.specs.declared.constants.Constants.{Constants}
use Rattle.abi_types.specs.declared.counts.Counts.{Counts}
use Rattle.abi_types.specs.declared.reply.Payload.{Payload}
use Rattle.abi_types.specs.declared.reply.Payload.TheVariants.{Child}
use Rattle.abi_types.specs.declared.thread.Thread.{Thread}
use Rattle.abi_types.specs.declared.thread.Thread.TheVariants.{Runnable}
use Rattle.abi_types.specs.declared.who.Who.{Who}
use Rattle.kernel_model.specs.Families.Locks.{called, given, sleeps_at, waits_for}
use Rattle.kernel_model.specs.Outcome.{is_parked}
pub use Rattle.kernel_model.specs.OwnChanges.{is_success, is_done}
use Rattle.kernel_model.specs.OwnChanges.{begins_to_sleep, next_child}
use Rattle.kernel_model.specs.Start.{canary_words}
use Rattle.kernel_model.specs.State.{State, ProcessState, thread_of, counts_in}
use Rattle.kernel_model.specs.Waits.{waiting}

-- ---- which calls make and end threads, and draw random words

-- whether the thread that made the call is ended by it: by a thread_exit that succeeds
abbrev pub ends_caller : Call → Answer → Bool
ends_caller (call.ThreadExit lock word scope) given = is_done given
ends_caller _ given = false

-- whether the other threads of the process are ended by the call: by a proc_exec that succeeds
abbrev pub ends_others : Call → Answer → Bool
ends_others (call.ProcExec fd bytes fds) given = is_done given
ends_others _ given = false

-- whether the call makes a thread: a thread_create that succeeds does
abbrev pub makes_thread : Call → Answer → Bool
makes_thread (call.ThreadCreate attributes) given = is_done given
makes_thread _ given = false

-- whether the call makes a child of its process: a proc_fork that succeeds does
abbrev pub makes_child : Call → Answer → Bool
makes_child (call.ProcFork left) given = is_done given
makes_child _ given = false

-- how many random words the call draws: a random_get that succeeds draws some, and a proc_exec those of the new program's canary
abbrev pub words_drawn : Call → Answer → ℕ
words_drawn (call.RandomGet length) given = if is_done given then words_of length else 0
words_drawn (call.ProcExec fd bytes fds) given = if is_done given then canary_words else 0
words_drawn _ given = 0

-- ---- the threads after a call

-- the first result of an answer; where the thread waits there is none, and 0 stands for that
abbrev pub first_result : Answer → ℕ
first_result (answer.Parked writes) = 0
first_result (answer.Reply reply) = reply.r1

-- the number of the next thread of a process
abbrev pub next_number : State → ℕ → ℕ
next_number S p = (counts_in (get S.processes p)).threads + 1

-- whether the call may give locks to threads that wait, or signal them: it lets a lock go, by itself, at the end of its thread or as that
-- begins to wait at a condition variable, or it signals
abbrev pub moves_waiters : Call → Answer → Bool
moves_waiters (call.LockUnlock lock word scope) given = is_done given
moves_waiters (call.ThreadExit lock word scope) given = is_done given
moves_waiters (call.CondvarSignal condvar word scope n) given = is_done given
moves_waiters (call.Poll subscriptions) given = begins_to_sleep given
moves_waiters _ answered = false

-- what a thread is that the call of another one doesn't end: what it was; or it waits as it did, and was given the lock for which it waited, or
-- was signalled at its condition variable
pub data IsMoved : Option Thread → Option Thread → Type 0 where
  stays : (thread : Option Thread) → IsMoved thread thread
  is_given : (lock : ℕ) (thread : Thread) → IsSome (waits_for lock thread) → IsMoved (Some thread) (Some (given thread))
  is_signalled : (condvar : ℕ) (thread : Thread) → IsSome (sleeps_at condvar thread) → IsMoved (Some thread) (Some (called thread))

-- What a thread that its call doesn't end is after the call, by the answer: it waits so, or a reply leaves it what it was. But one that waits, and
-- yet makes a call, may be given the lock for which it waits, or be signalled.
abbrev pub IsCallerAfter : Thread → Answer → Option Thread → Option Thread → Type 0
IsCallerAfter waits (answer.Parked writes) before after = after ≡ option_map (λ (thread : Thread). waits) before
IsCallerAfter waits (answer.Reply reply) before after = IsMoved before after

-- What a call that was answered so leaves of the threads of its process, if that lives on.
pub record LeavesThreads (constants : Constants) (S : State) (who : Who) (call : Call) (given : Answer) (T : State) : Type 0 where
  -- the thread that made the call is what its answer says, unless the call ends it; then it is there no more
  pub caller : ends_caller call given ≡ false → IsCallerAfter (waiting constants call who (S.clock + 1000)) given (thread_of S who.pid who.tid)
      (thread_of T who.pid who.tid)
  -- where it has a reply, and the call gives no lock and signals none, it is what it was
  pub goes_on : moves_waiters call given ≡ false → ends_caller call given ≡ false → is_parked given ≡ false
      → thread_of T who.pid who.tid ≡ thread_of S who.pid who.tid
  pub ended : ends_caller call given ≡ true → thread_of T who.pid who.tid ≡ None
  -- each other thread that was there is what it was, unless the call ends the others, or gives it a lock or signals it
  pub others : (t : ℕ) → t ≢ who.tid → IsSome (thread_of S who.pid t) → ends_others call given ≡ false → IsMoved (thread_of S who.pid t) (thread_of T who.pid t)
  pub same : moves_waiters call given ≡ false → (t : ℕ) → t ≢ who.tid → IsSome (thread_of S who.pid t) → ends_others call given ≡ false
      → thread_of T who.pid t ≡ thread_of S who.pid t
  -- and where it does that, no other one is there
  pub alone : ends_others call given ≡ true → (t : ℕ) → t ≢ who.tid → thread_of T who.pid t ≡ None
  -- a thread that was not there was made by the call: it has the next number, and runs
  pub made : (t : ℕ) → thread_of S who.pid t ≡ None → IsSome (thread_of T who.pid t)
      → (makes_thread call given ≡ true) × (t ≡ next_number S who.pid) × (thread_of T who.pid t ≡ Some Runnable)
  -- and a call that makes one makes this one, whose number none had
  pub makes : makes_thread call given ≡ true
      → (thread_of S who.pid (next_number S who.pid) ≡ None) × (thread_of T who.pid (next_number S who.pid) ≡ Some Runnable)

-- ---- the counts after a call

-- 1 where the call makes a thread, else 0
abbrev pub threads_made : Call → Answer → ℕ
threads_made call given = if makes_thread call given then 1 else 0

-- 1 where the call makes a child, else 0
abbrev pub children_made : Call → Answer → ℕ
children_made call given = if makes_child call given then 1 else 0

-- A process that lives on has numbered as many threads more as its call makes, drawn as many random words more as the call draws, and
-- counted as many children more as the call makes. It has made no fewer objects.
pub record LeavesCounts (call : Call) (given : Answer) (before after : Counts) : Type 0 where
  pub threads : after.threads ≡ before.threads + threads_made call given
  pub words : after.words ≡ before.words + words_drawn call given
  pub forks : after.forks ≡ before.forks + children_made call given
  pub objects : before.objects ≤ after.objects

-- ---- the child of a call

-- the number of the child that a call makes which was answered so, by what its process p had of its own
abbrev pub child_made : Call → Answer → ℕ → Option ProcessState → Option ℕ
child_made call given p own = if makes_child call given then next_child p own else None

-- a child that the call makes has no thread but such as run
abbrev pub BearsRunning : ℕ → Call → Answer → State → State → Type 0
BearsRunning p call given S T =
    (q : ℕ) → child_made call given p (get S.processes p) ≡ Some q → (t : ℕ) → (thread_of T q t ≡ None) ⊎ (thread_of T q t ≡ Some Runnable)

-- the process whose number a payload has
abbrev pub child_in : Payload → Option ℕ
child_in (Child q) = Some q
child_in _ = None

-- the number of the child that the answer to a call tells
abbrev pub child_told : Call → Answer → Option ℕ
child_told (call.ProcFork left) (answer.Reply reply) = child_in reply.payload
child_told _ _ = None
