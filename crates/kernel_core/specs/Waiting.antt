-- Threads that wait in calls, and their wakes.
use Rattle.std.specs.Prelude.{⊤, ℕ, ◌+◌, Option, None, Some, if◌then◌else◌}
use Rattle.abi_types.specs.declared.call.Call.{Call}
use Rattle.abi_types.specs.declared.reply.Answer.{Answer}
use Rattle.abi_types.specs.declared.thread.Thread.{Thread}
use Rattle.abi_types.specs.declared.thread.Thread.TheVariants.{Runnable, Waits}
use Rattle.abi_types.specs.declared.wake.WakeIn.{WakeIn}
use Rattle.abi_types.specs.declared.wake.WakeIn.TheVariants as wake
use Rattle.abi_types.specs.declared.who.Who.{Who}
use Rattle.kernel_core.specs.declared.waiting.Woken.{Woken}
use Rattle.kernel_core.specs.declared.waiting.Woken.TheVariants.{NotReady, NoMemory, Done}
use Rattle.kernel_model.specs.Families.Locks.{with_word}
use Rattle.kernel_model.specs.State.{State}
use Rattle.kernel_model.specs.Wakes.{may_queue}

-- a thread that makes a call in this state: the call is made at the moment after the 1000 nanoseconds that it takes
abbrev pub caller : State → ℕ → ℕ → Who
caller S p t = record { pid = p; tid = t; since = S.clock + 1000; stage = None }

-- the call that the thread waits in
abbrev pub kept_call : Option Thread → Option Call
kept_call None = None
kept_call (Some Runnable) = None
kept_call (Some (Waits call since until stage)) = Some call

-- The call in which the thread waits on after its wake, if it may: it has left its condition variable and waits for its lock, with the word that
-- this has now.
abbrev pub call_ahead : WakeIn → Option Thread → Option Call
call_ahead wake.Fault thread = None
call_ahead (wake.Plain word) None = None
call_ahead (wake.Plain word) (Some Runnable) = None
call_ahead (wake.Plain word) (Some (Waits call since until stage)) = if may_queue call (Some stage) then Some (with_word word call) else None

-- where the thread wasn't ready this holds
abbrev pub IfNotReady : Woken → Type 0 → Type 0
IfNotReady NotReady P = P
IfNotReady other P = ⊤

-- where memory ran out this holds
abbrev pub IfNoMemory : Woken → Type 0 → Type 0
IfNoMemory NoMemory P = P
IfNoMemory other P = ⊤

-- where the wake was done this holds of its call and of the answer to that
abbrev pub IfDone : Woken → (Call → Answer → Type 0) → Type 0
IfDone (Done call answered) P = P call answered
IfDone other P = ⊤
