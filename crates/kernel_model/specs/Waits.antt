-- Threads that wait in calls, when they are ready to go on, and where no thread is.
use Rattle.std.specs.Prelude.{◌≡◌, ⊤, ℕ, ◌==◌, ◌||◌, Bool, true, false, Option, None, Some, if◌then◌else◌}
use Rattle.abi_types.specs.declared.call.Call.{Call}
use Rattle.abi_types.specs.declared.constants.Constants.{Constants}
use Rattle.abi_types.specs.declared.reply.Answer.{Answer}
use Rattle.abi_types.specs.declared.reply.Answer.TheVariants as answer
use Rattle.abi_types.specs.declared.thread.Stage.{Stage}
use Rattle.abi_types.specs.declared.thread.Stage.TheVariants.{Begun, Signalled, Queued, Granted}
use Rattle.abi_types.specs.declared.thread.Thread.{Thread}
use Rattle.abi_types.specs.declared.thread.Thread.TheVariants.{Runnable, Waits}
use Rattle.abi_types.specs.declared.who.Who.{Who}
use Rattle.maps.specs.Closure.{changed}
use Rattle.kernel_model.specs.Calls.{meaning_of}
use Rattle.kernel_model.specs.Deadlines.{soon}
use Rattle.kernel_model.specs.Families.Locks.{first_awaited, is_condition, is_late, is_lock}
use Rattle.kernel_model.specs.State.{ProcessState, State, thread_of}

-- ---- what a thread does

-- the process, with its thread of this number doing that, if it has one
abbrev pub thread_set : ℕ → Thread → ProcessState → ProcessState
thread_set t thread own = record own { threads = changed (λ k before. if k == t then thread else before) own.threads }

-- the state in which thread t of process p does that, if there is one
abbrev pub with_thread : State → ℕ → ℕ → Thread → State
with_thread S p t thread = record S { processes = changed (λ q own. if q == p then thread_set t thread own else own) S.processes }

-- the state in which a thread runs that waited in a call
abbrev pub resumed : State → Who → State
resumed S who = with_thread S who.pid who.tid Runnable

-- ---- waiting

-- whether a thread may wait in the call
abbrev pub may_wait : Call → Bool
may_wait call = (meaning_of call).may_wait

-- by which moment a call is over that was made at the moment `since`, if there is such a moment that counts
abbrev pub deadline_of : Constants → Call → ℕ → Option ℕ
deadline_of constants call since = soon ((meaning_of call).deadline constants since)

-- whether a wait for what a call waits for may have come so far: any has begun, a lock may have been given to a thread that waits for one, and
-- a thread that waits at a condition variable may have been signalled, and wait for its lock
abbrev pub may_stand : Call → Stage → Bool
may_stand call Begun = true
may_stand call Signalled = is_condition (first_awaited call)
may_stand call (Queued at late) = is_condition (first_awaited call)
may_stand call (Granted late) = is_condition (first_awaited call) || is_lock (first_awaited call)

-- whether a thread has left its condition variable, and waits for the lock; its deadline doesn't count then
abbrev pub has_left : Call → Stage → Bool
has_left call Begun = false
has_left call Signalled = false
has_left call (Queued at late) = true
has_left call (Granted late) = is_condition (first_awaited call)

-- until when a thread waits in a call that was made at this moment, and has come so far
abbrev pub deadline_at : Constants → Call → ℕ → Stage → Option ℕ
deadline_at constants call since stage = if has_left call stage then None else deadline_of constants call since

-- a thread that waits in a call that was made at this moment, and whose wait has come so far
abbrev pub waits_at : Constants → Call → ℕ → Stage → Thread
waits_at constants call since stage = Waits call since (deadline_at constants call since stage) stage

-- How far a wait has come that goes on at the moment `now`: of a call it begins, and a thread that was woken at its condition variable waits for
-- the lock from then on.
abbrev pub stage_after : Call → Option Stage → ℕ → Stage
stage_after call None now = Begun
stage_after call (Some stage) now = if is_condition (first_awaited call) then Queued now (is_late stage) else Begun

-- how a thread waits in a call from the moment `now` on
abbrev pub waiting : Constants → Call → Who → ℕ → Thread
waiting constants call who now = waits_at constants call who.since (stage_after call who.stage now)

-- the state in which the caller waits, where the answer is that it does
abbrev pub waits_if : Answer → Who → Thread → State → State
waits_if (answer.Parked writes) who thread S = with_thread S who.pid who.tid thread
waits_if (answer.Reply reply) who thread S = S

-- the thread waits
abbrev pub IsParked : Thread → Type 0
IsParked Runnable = ⊥
IsParked (Waits call since until stage) = ⊤

-- where the thread is there and waits, it waits in a call in which it may, and its wait may have come so far
abbrev pub MayWait : Option Thread → Type 0
MayWait None = ⊤
MayWait (Some Runnable) = ⊤
MayWait (Some (Waits call since until stage)) = (may_wait call ≡ true) × (may_stand call stage ≡ true)

-- where the thread is there and waits, it does until its call's deadline, where that counts still
abbrev pub HasDeadline : Constants → Option Thread → Type 0
HasDeadline constants None = ⊤
HasDeadline constants (Some Runnable) = ⊤
HasDeadline constants (Some (Waits call since until stage)) = until ≡ deadline_at constants call since stage

-- each thread that waits does until its call's deadline
abbrev pub HasDeadlines : Constants → State → Type 0
HasDeadlines constants S = (p t : ℕ) → HasDeadline constants (thread_of S p t)

-- the thread waits in the call, which was made at the moment `since` of `who`, and its wait has come as far as `who` says
abbrev pub WaitsIn : State → Who → Call → Type 0
WaitsIn S who call =
    (until : Option ℕ) × (stage : Stage) × (who.stage ≡ Some stage) × (thread_of S who.pid who.tid ≡ Some (Waits call who.since until stage))
