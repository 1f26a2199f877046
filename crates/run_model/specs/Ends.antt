-- How a run may end, and how an act ends its process.
use Rattle.std.specs.Prelude.{◌≡◌, ℕ, ◌+◌, ◌*◌, Bool, true, false, List, [], ◌∷◌, length, Some, is_some, if◌then◌else◌}
use Rattle.abi_base.specs.declared.signal.Signal.TheVariants.{Xcpu}
use Rattle.abi_types.specs.declared.status.Status.{Status}
use Rattle.abi_types.specs.declared.status.Status.TheVariants.{Live, Exit, Killed}
use Rattle.abi_types.specs.declared.thread.Thread.{Thread}
use Rattle.abi_types.specs.declared.constants.Constants.{Constants}
use Rattle.abi_types.specs.declared.thread.Thread.TheVariants.{Runnable, Waits}
use Rattle.run_types.specs.declared.history.Act.{Act}
use Rattle.run_types.specs.declared.history.Act.TheVariants as act
use Rattle.run_types.specs.declared.history.Entry.{Entry}
use Rattle.run_types.specs.declared.launch.Launch.{Launch}
use Rattle.kernel_model.specs.Ends.{NoneLive}
use Rattle.kernel_model.specs.State.{State, ProcessState}
use Rattle.kernel_model.specs.Wakes.{is_ready_as, may_queue, IsStalled}
pub use Rattle.kernel_model.specs.Waits.{IsParked}
pub use Rattle.kernel_model.specs.Wakes.{HasThread, AllParked}
use Rattle.maps.specs.Maps.{total, least_key}
use Rattle.run_model.specs.World.{World, Guest, world}

-- the run is ended
abbrev pub Ended : Launch → List Entry → Type 0
Ended launch history = NoneLive (world launch history).state

-- the run is stalled
abbrev pub Stalled : Launch → List Entry → Type 0
Stalled launch history = IsStalled (world launch history).constants (world launch history).state

-- the status of a process that an act ends from outside
abbrev pub EndsBy : Act → Status → Type 0
EndsBy (act.Call call given) status = ⊥
EndsBy (act.Wake call given answered) status = ⊥
EndsBy (act.Trap signal) status = status ≡ Killed signal
EndsBy act.Expire status = status ≡ Killed Xcpu
EndsBy act.Idle status = ⊥

-- ---- how long a run may be

-- the turns that the entries of a history took
abbrev pub turns_taken : List Entry → ℕ
turns_taken [] = 0
turns_taken (e ∷ es) = length e.turns + turns_taken es

-- 1 while a process with this status is live
abbrev pub live_number : Status → ℕ
live_number Live = 1
live_number (Exit code) = 0
live_number (Killed signal) = 0

-- How many wakes a thread may still have before its process takes a turn again. One that waits has one, which ends its wait. But one that is
-- at its condition variable, or was signalled there, may wait for the lock after its first wake: it has two.
abbrev pub wakes_left : Thread → ℕ
wakes_left Runnable = 0
wakes_left (Waits call since until stage) = if may_queue call (Some stage) then 2 else 1

-- those of all threads of a process
abbrev pub all_wakes_left : ProcessState → ℕ
all_wakes_left own = total wakes_left own.threads

-- whether a thread takes its turns, or is ready to
abbrev pub goes_on : Constants → State → ℕ → ℕ → Thread → Bool
goes_on constants S p t Runnable = true
goes_on constants S p t (Waits call since until stage) = is_ready_as constants S p t (Some (Waits call since until stage))

-- whether some thread of a process does
abbrev pub some_goes_on : Constants → State → ℕ → ProcessState → Bool
some_goes_on constants S p own = is_some (least_key (goes_on constants S p) own.threads)

-- how many jumps of time may come next: one, unless some thread takes turns or is ready to
abbrev pub jumps_unless : Bool → ℕ
jumps_unless true = 0
jumps_unless false = 1

abbrev pub jumps_left : Constants → State → ℕ
jumps_left constants S = jumps_unless (is_some (least_key (some_goes_on constants S) S.processes))

-- What is left to do, counted in entries:
-- Six for each turn that a process has left. These are the entry that the turn comes to, at most two wakes of its call with a jump each, and
-- one jump more. A call that makes a process has no wake, so they pay for the process too.
-- Two for each process that lives, its end and a jump.
-- Two for each wake that a thread may still have, the wake and a jump.
-- And the jump that may come next.
abbrev pub potential : World → ℕ
potential w =
    6 * total (λ (guest : Guest). guest.left) w.guests + 2 * total live_number w.state.statuses
    + 2 * total all_wakes_left w.state.processes
    + jumps_left w.constants w.state
