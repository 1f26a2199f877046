-- When a thread that waits is ready to go on, what its wake does, and where time goes to the next deadline because none is.
use Rattle.std.specs.Prelude.{◌≡◌, ℕ, not, Bool, true, false, Option, None, Some, if◌then◌else◌}
use Rattle.std.specs.FinMap.{get}
use Rattle.abi_base.specs.declared.errno.Errno.TheVariants.{Fault}
use Rattle.abi_types.specs.declared.call.Call.{Call}
use Rattle.abi_types.specs.declared.constants.Constants.{Constants}
use Rattle.abi_types.specs.declared.reply.Answer.{Answer}
use Rattle.abi_types.specs.declared.reply.Answer.TheVariants as answer
use Rattle.abi_types.specs.declared.status.Status.TheVariants.{Live}
use Rattle.abi_types.specs.declared.thread.Stage.{Stage}
use Rattle.abi_types.specs.declared.thread.Stage.TheVariants.{Begun, Signalled, Queued, Granted}
use Rattle.abi_types.specs.declared.thread.Thread.{Thread}
use Rattle.abi_types.specs.declared.thread.Thread.TheVariants.{Runnable, Waits}
use Rattle.abi_types.specs.declared.wake.WakeIn.{WakeIn}
use Rattle.abi_types.specs.declared.wake.WakeIn.TheVariants as wake
use Rattle.abi_types.specs.declared.who.Who.{Who}
use Rattle.kernel_model.specs.Calls.{meaning_of}
use Rattle.kernel_model.specs.Deadlines.{is_due, least_deadline}
use Rattle.kernel_model.specs.Families.Locks.{first_awaited, is_condition, with_word}
use Rattle.kernel_model.specs.Outcome.{is_parked}
use Rattle.kernel_model.specs.Reply.{refused}
use Rattle.kernel_model.specs.State.{State, thread_of}
use Rattle.kernel_model.specs.Step.{failed, outcome_by, step_answer, step_state, IsStep}
use Rattle.kernel_model.specs.View.{whole}
use Rattle.kernel_model.specs.Waits.{resumed, IsParked}

-- ---- ready threads

-- what the call answers if it is done now, at the state's own moment
abbrev pub answer_now : Constants → State → Who → Call → Answer
answer_now constants S who call = (outcome_by constants (whole S) who call).answer

-- whether the call that a thread waits in would be done now, in the state in which the thread runs
abbrev pub is_done_now : Constants → State → Who → Call → Bool
is_done_now constants S who call = not (is_parked (answer_now constants (resumed S who) who call))

-- whether a thread goes on whose wait for a lock or at a condition variable has come so far: it was given the lock or signalled, or its time has
-- come before
abbrev pub goes_on_at : Stage → Bool → Bool
goes_on_at Begun due = due
goes_on_at Signalled due = true
goes_on_at (Queued at late) due = false
goes_on_at (Granted late) due = true

-- Whether a thread goes on that waits so: one that waits for a lock or at a condition variable does once it was given the lock, was signalled
-- or its time has come, and any other once its call would be done.
abbrev pub is_ready_as : Constants → State → ℕ → ℕ → Option Thread → Bool
is_ready_as constants S p t None = false
is_ready_as constants S p t (Some Runnable) = false
is_ready_as constants S p t (Some (Waits call since until stage)) =
    if (meaning_of call).by_stage
    then goes_on_at stage (is_due S.clock until)
    else is_done_now constants S (record { pid = p; tid = t; since = since; stage = Some stage }) call

-- whether the thread waits, and goes on now
abbrev pub is_ready : Constants → State → ℕ → ℕ → Bool
is_ready constants S p t = is_ready_as constants S p t (thread_of S p t)

-- ---- wakes

-- whether a thread may wait on after a wake that had come so far: one that was signalled at its condition variable, or whose time had come
-- there, may wait for the lock
abbrev pub may_queue : Call → Option Stage → Bool
may_queue call (Some Begun) = is_condition (first_awaited call)
may_queue call (Some Signalled) = is_condition (first_awaited call)
may_queue call stage = false

-- the call of a wake: with the word that its lock has now
abbrev pub woken : Call → WakeIn → Call
woken call wake.Fault = call
woken call (wake.Plain word) = with_word word call

-- the wake answers what its call is, and never that memory ran out
abbrev pub LacksNoMemory : Constants → State → Who → Call → Answer → State → Type 0
LacksNoMemory constants S who call answered T = (answered ≡ step_answer constants S who call) × (T ≡ step_state constants S who call)

-- A wake of a thread that waits in a call, which was made at the moment `since` of `who`, has this answer and leaves this state: it is a
-- step of that call, with the word that its lock has now, from the state in which the thread runs already, and it ends the wait, unless the
-- thread has left its condition variable and waits for the lock. A thread that waited for a lock or at a condition variable is never told
-- that memory ran out, since it has been given the lock, or its signal is used up. Where the word or the places of the call's output aren't
-- accessible any more it is refused, and the thread runs.
abbrev pub IsWake : Constants → State → Who → Call → WakeIn → Answer → State → Type 0
IsWake constants S who call wake.Fault answered T = (answered ≡ answer.Reply (refused Fault)) × (T ≡ failed (resumed S who) who)
IsWake constants S who call (wake.Plain word) answered T =
    IsStep constants (resumed S who) who (with_word word call) answered T × (is_parked answered ≡ true → may_queue call who.stage ≡ true)
    × ((meaning_of call).by_stage ≡ true → LacksNoMemory constants (resumed S who) who (with_word word call) answered T)

-- ---- idle jumps

-- the process has this thread
abbrev pub HasThread : State → ℕ → ℕ → Thread → Type 0
HasThread S p t thread = thread_of S p t ≡ Some thread

-- some process that is live has a thread, and each thread waits
abbrev pub AllParked : State → Type 0
AllParked S =
    ((p : ℕ) × (t : ℕ) × (thread : Thread) × HasThread S p t thread × (get S.statuses p ≡ Some Live))
    × ((p t : ℕ) (thread : Thread) → HasThread S p t thread → IsParked thread)

-- no thread is ready
abbrev pub NoneReady : Constants → State → Type 0
NoneReady constants S = (p t : ℕ) → is_ready constants S p t ≡ false

-- Time may jump to the next deadline: there are live threads, each waits, none is ready, and one has a deadline.
pub record MayJump (constants : Constants) (S : State) : Type 0 where
  pub all : AllParked S
  pub none : NoneReady constants S
  pub until : ℕ
  pub least : least_deadline S ≡ Some until

-- Nothing can happen any more: there are live threads, each waits, none is ready, and none has a deadline.
pub record IsStalled (constants : Constants) (S : State) : Type 0 where
  pub all : AllParked S
  pub none : NoneReady constants S
  pub least : least_deadline S ≡ None
