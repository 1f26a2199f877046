-- What holds of threads that wait, of their wakes and of idle jumps: the statements that are the contracts of the functions of
-- src/wait_laws.rt.
use Rattle.std.specs.Prelude.{◌≡◌, ◌≢◌, ◌⊎◌, ⊤, ℕ, ◌+◌, ◌^◌, ◌==◌, ◌<◌, ◌≤◌, Bool, true, false, List, ◌∷◌, Option, None, Some, IsSome, if◌then◌else◌}
use Rattle.std.specs.FinMap.{get}
use Rattle.abi_base.specs.declared.errno.Errno.TheVariants.{Nomem, Success}
use Rattle.abi_base.specs.declared.grant.Grant.{Grant}
use Rattle.abi_structures.specs.declared.events.Subscription.{Subscription}
use Rattle.abi_structures.specs.declared.events.What.{What}
use Rattle.abi_structures.specs.declared.events.What.TheVariants.{Condvar, LockRdlock, LockWrlock}
use Rattle.abi_types.specs.declared.call.Call.{Call}
use Rattle.abi_types.specs.declared.call.Call.TheVariants.{Poll}
use Rattle.abi_types.specs.declared.constants.Constants.{Constants}
use Rattle.abi_types.specs.declared.reply.Answer.{Answer}
use Rattle.abi_types.specs.declared.reply.Answer.TheVariants as answer
use Rattle.abi_types.specs.declared.reply.Reply.{Reply}
use Rattle.abi_types.specs.declared.reply.WordWrite.{WordWrite}
use Rattle.abi_types.specs.declared.reply.WordWrites.{WordWrites}
use Rattle.abi_types.specs.declared.reply.WordWrites.TheVariants.{Two}
use Rattle.abi_types.specs.declared.status.Status.{Status}
use Rattle.abi_types.specs.declared.status.Status.TheVariants.{Live}
use Rattle.abi_types.specs.declared.thread.Stage.{Stage}
use Rattle.abi_types.specs.declared.thread.Stage.TheVariants.{Queued}
use Rattle.abi_types.specs.declared.thread.Thread.TheVariants.{Runnable, Waits}
use Rattle.abi_types.specs.declared.wake.WakeIn.{WakeIn}
use Rattle.abi_types.specs.declared.wake.WakeIn.TheVariants as wake
use Rattle.abi_types.specs.declared.who.Who.{Who}
use Rattle.kernel_model.specs.Calls.{refusal_of, takes_memory}
use Rattle.kernel_model.specs.Deadlines.{idle_state, least_deadline}
use Rattle.maps.specs.Closure.{changed}
use Rattle.kernel_model.specs.Families.Locks.{handed_own, with_word}
use Rattle.kernel_model.specs.Laws.{HasSameProcess, HasSameSight, IsKilled}
use Rattle.kernel_model.specs.Outcome.{is_parked}
use Rattle.kernel_model.specs.Start.{start_state}
use Rattle.kernel_model.specs.OwnChanges.{begins_to_sleep}
use Rattle.kernel_model.specs.State.{State, ProcessState, Part, Tree, at_proc, same_part, Agree, counts_in, thread_of}
use Rattle.kernel_model.specs.Step.{end_state, outside, step_answer, step_state, tick, IsStep, IsUntouched}
use Rattle.kernel_model.specs.Threads.{ends_caller, ends_others, makes_child, makes_thread, moves_waiters, next_number, LeavesCounts}
use Rattle.kernel_model.specs.Valid.{IsValid}
use Rattle.kernel_model.specs.Waits.{may_wait, resumed, waiting, with_thread, HasDeadlines, WaitsIn}
use Rattle.kernel_model.specs.Wakes.{is_ready, may_queue, woken, IsWake}

-- ---- calls in which threads wait

-- A thread waits only in a call in which it may. The call takes memory, it is not refused, and no path of it leads outside.
abbrev pub ParkingIsAllowed : Type 0
ParkingIsAllowed =
    (constants : Constants) (S : State) (who : Who) (call : Call) (writes : WordWrites) (T : State) → IsStep constants S who call (answer.Parked writes) T
    → (may_wait call ≡ true) × (takes_memory call ≡ true) × (refusal_of call (get S.tables who.pid) ≡ None) × (outside S who call ≡ None)

-- the state in which the thread waits in the call that it made: beside that only the clock has moved
abbrev pub parked : Constants → State → Who → Call → State
parked constants S who call = with_thread (tick S) who.pid who.tid (waiting constants call who (S.clock + 1000))

-- the state in which the process p has changed so
abbrev pub with_changed : State → ℕ → (ProcessState → ProcessState) → State
with_changed S p f = record S { processes = changed (λ q own. if q == p then f own else own) S.processes }

-- the same, where it begins to wait at a condition variable: its lock was handed on first
abbrev pub asleep : Constants → State → Who → Call → ℕ → State
asleep constants S who call lock =
    with_thread (with_changed (tick S) who.pid (handed_own lock)) who.pid who.tid (waiting constants call who (S.clock + 1000))

-- A call in which its thread waits changes only the clock and this thread of a valid state, and where it begins to wait at a condition variable
-- with a lock, how others wait for that.
pub record ParkingKeeps : Type 0 where
  pub alone : (constants : Constants) (S : State) (who : Who) (call : Call) (writes : WordWrites) (T : State)
      → IsStep constants S who call (answer.Parked writes) T → IsValid S → begins_to_sleep (answer.Parked writes) ≡ false → T ≡ parked constants S who call
  pub asleep : (constants : Constants) (S : State) (who : Who) (call : Call) (condvar lock : WordWrite) (T : State)
      → IsStep constants S who call (answer.Parked (Two condvar lock)) T → IsValid S → T ≡ asleep constants S who call lock.address

-- ---- threads that are ready

-- the state at another moment
abbrev pub at_moment : State → ℕ → State
at_moment S moment = record S { clock = moment }

-- A thread that is ready is ready at each later moment, as long as nothing else changes.
abbrev pub ReadyStays : Type 0
ReadyStays =
    (constants : Constants) (S : State) (p t later : ℕ) → is_ready constants S p t ≡ true → S.clock ≤ later → is_ready constants (at_moment S later) p t ≡ true

-- A thread of a valid state is ready once its deadline has come.
abbrev pub DueIsReady : Type 0
DueIsReady =
    (constants : Constants) (S : State) (p t : ℕ) (call : Call) (since until : ℕ) (stage : Stage) → IsValid S → HasDeadlines constants S
    → thread_of S p t ≡ Some (Waits call since (Some until) stage) → until ≤ S.clock → is_ready constants S p t ≡ true

-- So is one of a state in which its call sees the same: whether a thread is ready hangs on what its call sees alone.
abbrev pub ReadyDecided : Type 0
ReadyDecided =
    (constants : Constants) (S T : State) (who : Who) (call : Call) → WaitsIn S who call → HasSameSight S T who call
    → is_ready constants S who.pid who.tid ≡ is_ready constants T who.pid who.tid

-- ---- wakes

-- A thread that waits and is ready has a wake: its call, done in the state in which it runs, has a reply.
abbrev pub ReadyHasWake : Type 0
ReadyHasWake =
    (constants : Constants) (S : State) (who : Who) (call : Call) (word : ℕ) → WaitsIn S who call → is_ready constants S who.pid who.tid ≡ true
    → IsWake constants S who call (wake.Plain word) (step_answer constants (resumed S who) who (with_word word call))
    (step_state constants (resumed S who) who (with_word word call))

-- Each step of the call from there ends the wait of a ready thread, or the thread has left its condition variable and waits for the lock.
abbrev pub WakeEndsWait : Type 0
WakeEndsWait =
    (constants : Constants) (S : State) (who : Who) (call : Call) (word : ℕ) (answered : Answer) (T : State) → WaitsIn S who call
    → is_ready constants S who.pid who.tid ≡ true → IsStep constants (resumed S who) who (with_word word call) answered T
    → is_parked answered ≡ true → may_queue call who.stage ≡ true

-- what a thread waits for is a lock, or a signal at a condition variable with a lock
abbrev pub IsOfLock : What → Type 0
IsOfLock (LockRdlock lock word scope) = ⊤
IsOfLock (LockWrlock lock word scope) = ⊤
IsOfLock (Condvar condvar condvar_word lock lock_word condvar_scope lock_scope) = ⊤
IsOfLock other = ⊥

-- A thread that waited for a lock or at a condition variable is never told that memory ran out.
abbrev pub LockWakeHasMemory : Type 0
LockWakeHasMemory =
    (constants : Constants) (S : State) (who : Who) (userdata : ℕ) (what : What) (rest : List Subscription) (given : WakeIn) (reply : Reply) (T : State)
    → IsOfLock what → IsWake constants S who (Poll (record { userdata = userdata; what = what } ∷ rest)) given (answer.Reply reply) T
    → reply.errno ≢ Nomem

-- The state in which a thread runs that waited differs in nothing but what this thread does.
pub record ResumesOnly (S : State) (who : Who) (R : State) : Type 0 where
  pub others : (part : Part) → same_part (at_proc who.pid) part ≡ false → Agree R S part
  pub table : get R.tables who.pid ≡ get S.tables who.pid
  pub counts : counts_in (get R.processes who.pid) ≡ counts_in (get S.processes who.pid)
  pub runs : IsSome (thread_of S who.pid who.tid) → thread_of R who.pid who.tid ≡ Some Runnable
  pub threads : (t : ℕ) → t ≢ who.tid → thread_of R who.pid t ≡ thread_of S who.pid t

abbrev pub ResumedRuns : Type 0
ResumedRuns = (S : State) (who : Who) → ResumesOnly S who (resumed S who)

-- Where a call sees the same in two states it does so in those in which its thread runs. So what is said of calls that see the same is said
-- of wakes.
abbrev pub ResumedSeesSame : Type 0
ResumedSeesSame = (S T : State) (who : Who) (call : Call) → HasSameSight S T who call → HasSameSight (resumed S who) (resumed T who) who call

-- A wake takes 1000 nanoseconds and changes nothing of other processes but of those that the release after it kills. Where its process
-- lives on the thread runs, unless its call ends it, or it has left its condition variable and waits for the lock; each other thread is what it
-- was, unless the call ends the others, or gives locks to those that wait or signals them; a thread that was not there was made by the
-- call; and the process counts what the call makes.
pub record WakesOnly (S : State) (who : Who) (call : Call) (answered : Answer) (T : State) : Type 0 where
  pub clock : T.clock ≡ S.clock + 1000
  pub others : makes_child call answered ≡ false → (q : ℕ) → q ≢ who.pid → HasSameProcess T S q ⊎ IsKilled S T q
  pub runs : get T.statuses who.pid ≡ Some Live → IsSome (thread_of S who.pid who.tid) → ends_caller call answered ≡ false
      → is_parked answered ≡ false → thread_of T who.pid who.tid ≡ Some Runnable
  pub queues : get T.statuses who.pid ≡ Some Live → IsSome (thread_of S who.pid who.tid) → is_parked answered ≡ true
      → (word : ℕ) × (late : Bool) × (thread_of T who.pid who.tid ≡ Some (Waits (with_word word call) who.since None (Queued T.clock late)))
  pub threads : get T.statuses who.pid ≡ Some Live → (t : ℕ) → t ≢ who.tid → IsSome (thread_of S who.pid t) → ends_others call answered ≡ false
      → moves_waiters call answered ≡ false → thread_of T who.pid t ≡ thread_of S who.pid t
  pub made : get T.statuses who.pid ≡ Some Live → (t : ℕ) → thread_of S who.pid t ≡ None → IsSome (thread_of T who.pid t)
      → (makes_thread call answered ≡ true) × (t ≡ next_number S who.pid) × (thread_of T who.pid t ≡ Some Runnable)
  pub counts : get T.statuses who.pid ≡ Some Live → LeavesCounts call answered (counts_in (get S.processes who.pid)) (counts_in (get T.processes who.pid))

-- A thread of a valid state waits in a call that makes and ends none, and no child, so no wake makes or ends a thread, or makes a child.
abbrev pub WakeKeepsThreads : Type 0
WakeKeepsThreads =
    (S : State) (who : Who) (call : Call) (answered : Answer) → IsValid S → WaitsIn S who call
    → (ends_caller call answered ≡ false) × (ends_others call answered ≡ false) × (makes_thread call answered ≡ false) × (makes_child call answered ≡ false)

abbrev pub WakeMovesOnly : Type 0
WakeMovesOnly =
    (constants : Constants) (S : State) (who : Who) (call : Call) (given : WakeIn) (answered : Answer) (T : State) → IsWake constants S who call given answered T
    → WakesOnly S who call answered T

-- Nor does a wake of a valid state give a lock to a thread that waits, or signal one.
abbrev pub WakeMovesNone : Type 0
WakeMovesNone =
    (constants : Constants) (S : State) (who : Who) (call : Call) (given : WakeIn) (answered : Answer) (T : State) → IsWake constants S who call given answered T
    → IsValid S → WaitsIn S who call → moves_waiters call answered ≡ false

-- A wake that answers an error, FAULT and lack of memory among them, changes only the clock of a valid state, and the thread runs.
abbrev pub WakeErrorKeeps : Type 0
WakeErrorKeeps =
    (constants : Constants) (S : State) (who : Who) (call : Call) (given : WakeIn) (reply : Reply) (T : State)
    → IsWake constants S who call given (answer.Reply reply) T → IsValid S → reply.errno ≢ Success → T ≡ tick (resumed S who)

-- After a wake each part that its call, with the word that its lock has now, does not touch and that the release does not end has the value it had.
abbrev pub WakeOthersStay : Type 0
WakeOthersStay =
    (constants : Constants) (S : State) (who : Who) (call : Call) (given : WakeIn) (answered : Answer) (T : State) (q : Part)
    → IsWake constants S who call given answered T → IsUntouched constants (resumed S who) who (woken call given) q → Agree T S q

-- ---- idle jumps

-- the thread waits in some call until this moment, which is before 2^62
abbrev pub WaitsUntil : State → ℕ → ℕ → ℕ → Type 0
WaitsUntil S p t until =
    (call : Call) × (since : ℕ) × (stage : Stage) × (thread_of S p t ≡ Some (Waits call since (Some until) stage)) × (until < 2 ^ 62)

-- the deadline is the least of all threads', and there is none where none has one
abbrev pub IsLeastDeadline : State → Option ℕ → Type 0
IsLeastDeadline S None = (p t other : ℕ) → ¬ WaitsUntil S p t other
IsLeastDeadline S (Some until) =
    ((p : ℕ) × (t : ℕ) × WaitsUntil S p t until) × ((p t other : ℕ) → WaitsUntil S p t other → until ≤ other)

abbrev pub LeastIsLeast : Type 0
LeastIsLeast = (S : State) → IsLeastDeadline S (least_deadline S)

-- It is before 2^62.
abbrev pub LeastIsSoon : Type 0
LeastIsSoon = (S : State) (until : ℕ) → least_deadline S ≡ Some until → until < 2 ^ 62

-- An idle jump moves the clock forward, by what each entry takes at least, and no further than to the least deadline where that is more;
-- nothing else changes.
pub record JumpsTo (S T : State) : Type 0 where
  pub only : T ≡ at_moment S T.clock
  pub forward : S.clock + 1000 ≤ T.clock
  pub bounded : (T.clock ≡ S.clock + 1000) ⊎ (least_deadline S ≡ Some T.clock)

abbrev pub IdleJumps : Type 0
IdleJumps = (S : State) → JumpsTo S (idle_state S)

-- After it some thread is ready, if one had a deadline. So no two jumps follow each other.
abbrev pub JumpReadies : Type 0
JumpReadies =
    (constants : Constants) (S : State) (until : ℕ) → IsValid S → HasDeadlines constants S → least_deadline S ≡ Some until
    → (p : ℕ) × (t : ℕ) × (is_ready constants (idle_state S) p t ≡ true)

-- ---- what stays

-- A wake and an idle jump leave a valid state valid.
abbrev pub WakeKeepsValid : Type 0
WakeKeepsValid =
    (constants : Constants) (S : State) (who : Who) (call : Call) (given : WakeIn) (answered : Answer) (T : State)
    → IsWake constants S who call given answered T → IsValid S → IsValid T

abbrev pub IdleKeepsValid : Type 0
IdleKeepsValid = (S : State) → IsValid S → IsValid (idle_state S)

-- At the start each thread that waits does until its call's deadline, and a step, a wake, the end of a process from outside and an idle
-- jump leave it so in valid states.
pub record DeadlinesAreKept : Type 0 where
  pub start : (constants : Constants) (tree : Tree) (grants : List Grant) (stdin : List ℕ) → HasDeadlines constants (start_state tree grants stdin)
  pub step : (constants : Constants) (S : State) (who : Who) (call : Call) (given : Answer) (T : State) → IsStep constants S who call given T → IsValid S
      → HasDeadlines constants S → HasDeadlines constants T
  pub wake : (constants : Constants) (S : State) (who : Who) (call : Call) (given : WakeIn) (answered : Answer) (T : State)
      → IsWake constants S who call given answered T → IsValid S → HasDeadlines constants S → HasDeadlines constants T
  pub end : (constants : Constants) (S : State) (p : ℕ) (status : Status) → status ≢ Live → IsValid S → HasDeadlines constants S
      → HasDeadlines constants (end_state S p status)
  pub idle : (constants : Constants) (S : State) → HasDeadlines constants S → HasDeadlines constants (idle_state S)
