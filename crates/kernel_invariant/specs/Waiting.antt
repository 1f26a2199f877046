-- Threads that wait in calls.
use Rattle.std.specs.Prelude.{◌≡◌, ℕ, false, Some}
use Rattle.abi_types.specs.declared.constants.Constants.{Constants}
use Rattle.abi_types.specs.declared.thread.Stage.{Stage}
use Rattle.abi_types.specs.declared.thread.Thread.{Thread}
use Rattle.abi_types.specs.declared.who.Who.{Who}
use Rattle.kernel_model.specs.State.{State, thread_of}
use Rattle.kernel_model.specs.Waits.{HasDeadline, IsParked}
use Rattle.kernel_model.specs.Wakes.{is_ready}

-- a thread whose call was made at this moment, and whose wait has come so far
abbrev pub waiter : ℕ → ℕ → ℕ → Stage → Who
waiter p t since stage = record { pid = p; tid = t; since = since; stage = Some stage }

-- no thread runs
abbrev pub NoneRuns : State → Type 0
NoneRuns S = (p t : ℕ) (thread : Thread) → thread_of S p t ≡ Some thread → IsParked thread

-- the thread isn't ready in a run in which it waits until its call's deadline
abbrev pub IsUnready : State → ℕ → ℕ → Type 0
IsUnready S p t = (constants : Constants) → HasDeadline constants (thread_of S p t) → is_ready constants S p t ≡ false
