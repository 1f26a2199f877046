-- In which phase a process is after a step of a thread, and what its threads do then.
use Rattle.std.specs.Prelude.{◌≡◌, ℕ, Bool, true, false, Some}
use Rattle.std.specs.FinMap.{empty, get, insert, remove}
use Rattle.abi_types.specs.declared.call.Call.{Call}
use Rattle.abi_types.specs.declared.call.Call.TheVariants.{ThreadYield}
use Rattle.kernel_cell.specs.Results.{Threads}
use Rattle.kernel_cell.specs.declared.results.After.{After}
use Rattle.kernel_cell.specs.declared.results.After.TheVariants as to
use Rattle.kernel_cell.specs.declared.results.Came.{Came}
use Rattle.kernel_cell.specs.declared.results.Came.TheVariants as came
use Rattle.kernel_cell.specs.declared.results.Doing.{Doing}
use Rattle.kernel_cell.specs.declared.results.Doing.TheVariants as doing
use Rattle.rv_interp.specs.declared.turns.TurnEnd.{TurnEnd}
use Rattle.rv_interp.specs.declared.turns.TurnEnd.TheVariants as turn_end_is
use Rattle.process_cell.specs.declared.results.Phase.{Phase}
use Rattle.process_cell.specs.declared.results.Phase.TheVariants as phase

-- after a turn of thread t that ended so
abbrev pub phase_after_turn : ℕ → TurnEnd → Phase
phase_after_turn t turn_end_is.Quantum = phase.Lives
phase_after_turn t turn_end_is.Ecall = phase.Calls t
phase_after_turn t (turn_end_is.Trap signal) = phase.Traps t signal

-- after this came of a call, a wake or an end from outside
abbrev pub phase_after : Came After → Phase
phase_after (came.Done to.Lost) = phase.Lost
phase_after (came.Done to.Ended) = phase.Gone
phase_after (came.Done x) = phase.Lives
phase_after came.NotReady = phase.Lives
phase_after came.Gone = phase.Gone
phase_after came.NoMemory = phase.Lost

-- a process's only thread, which takes turns
abbrev pub alone : ℕ → Threads
alone t = insert empty t doing.Runs

-- What threads do after this came of what thread t asked for. One that was made does what it does before.
abbrev pub threads_after : Threads → ℕ → Came After → Threads
threads_after threads t (came.Done to.Runs) = insert threads t doing.Runs
threads_after threads t (came.Done to.Waits) = insert threads t doing.Waits
threads_after threads t (came.Done to.Leaves) = remove threads t
threads_after threads t (came.Done to.Begins) = alone t
threads_after threads t other = threads

-- thread t has its place where it goes on or waits, and did that before
abbrev pub HasPlaceFor : ℕ → Doing → Threads → Came After → Type 0
HasPlaceFor t did threads (came.Done to.Runs) = get threads t ≡ Some did
HasPlaceFor t did threads (came.Done to.Waits) = get threads t ≡ Some did
HasPlaceFor t did threads (came.Done to.Begins) = get threads t ≡ Some did
HasPlaceFor t did threads other = Unit {0}

-- the thread that makes this call gives way to others, whatever comes of it
abbrev pub is_yield : Call → Bool
is_yield ThreadYield = true
is_yield other = false
