-- How a process is tied to the world of the history that its pass has seen.
use Rattle.std.specs.Prelude.{◌≡◌, ℕ, List, [], Option, None, Some, IsSome}
use Rattle.std.specs.FinMap.{empty, get, insert}
use Rattle.abi_types.specs.declared.call.Call.TheVariants.{ProcFork}
use Rattle.abi_types.specs.declared.thread.Thread.{Thread}
use Rattle.abi_types.specs.declared.thread.Thread.TheVariants.{Runnable}
use Rattle.shared_history.specs.Passes.{Passing}
use Rattle.kernel_cell.specs.Results.{Threads}
use Rattle.kernel_cell.specs.declared.results.Body.{Body}
use Rattle.kernel_cell.specs.declared.results.Doing.{Doing}
use Rattle.kernel_cell.specs.declared.results.Doing.TheVariants as doing
use Rattle.kernel_cell.specs.declared.results.EndBy.{EndBy}
use Rattle.kernel_cell.specs.declared.results.EndBy.TheVariants as end_by
use Rattle.kernel_model.specs.State.{thread_of}
use Rattle.kernel_model.specs.Waits.{IsParked}
use Rattle.run_types.specs.declared.launch.Launch.{Launch}
use Rattle.tree_model.specs.Grants.{MayBegin}
use Rattle.rv_interp.specs.declared.turns.TurnEnd.TheVariants as turn_end_is
use Rattle.call_codec.specs.Arguments.{args_of}
use Rattle.run_model.specs.Legal.{AreWhole, LastEnds}
use Rattle.run_model.specs.Own.{own, IsLiveIn}
use Rattle.run_model.specs.World.{World, Guest, world, guest_of, registers_of, turned_guest_by}
use Rattle.process_cell.specs.Standing.{Standing}
use Rattle.process_cell.specs.declared.results.Phase.{Phase}
use Rattle.process_cell.specs.declared.results.Phase.TheVariants as phase

-- ---- threads

-- the thread waits in a call
abbrev pub Waits : Option Thread → Type 0
Waits o = (thread : Thread) × (o ≡ Some thread) × IsParked thread

-- a thread does that, if there is one
abbrev pub DoesSo : Option Doing → Option Thread → Type 0
DoesSo None o = o ≡ None
DoesSo (Some doing.Runs) o = o ≡ Some Runnable
DoesSo (Some doing.Waits) o = Waits o

-- in this world the threads of process p do that, and there is no other
abbrev pub AreThreads : World → ℕ → Threads → Type 0
AreThreads w p threads = (t : ℕ) → DoesSo (get threads t) (thread_of w.state p t)

-- ---- the process

-- In this world process p is live and its threads do that, this guest is what the process has after these turns, and each thread has
-- registers there.
pub record Stands (w : World) (p : ℕ) (threads : Threads) (turns : List ℕ) (guest : Guest) : Type 0 where
  pub live : IsLiveIn w p
  pub are : AreThreads w p threads
  pub guest_is : guest ≡ turned_guest_by turns (guest_of w p)
  pub registers : (t : ℕ) → IsSome (get threads t) → IsSome (get guest.regs t)

-- the same by phase, and how the turns ended: the last one is of a thread that takes turns
abbrev pub TiedIn : World → ℕ → Threads → List ℕ → Guest → Phase → Type 0
TiedIn w p threads turns guest phase.Lives = Stands w p threads turns guest × AreWhole w.state p (guest_of w p) turns
TiedIn w p threads turns guest (phase.Calls t) =
    Stands w p threads turns guest × (get threads t ≡ Some doing.Runs) × LastEnds w.state p (guest_of w p) turns t turn_end_is.Ecall
TiedIn w p threads turns guest (phase.Forks t) =
    Stands w p threads turns guest × (get threads t ≡ Some doing.Runs) × LastEnds w.state p (guest_of w p) turns t turn_end_is.Ecall
    × (args_of guest.memory (registers_of guest t) guest.left ≡ ProcFork guest.left)
TiedIn w p threads turns guest (phase.Traps t signal) =
    Stands w p threads turns guest × (get threads t ≡ Some doing.Runs) × LastEnds w.state p (guest_of w p) turns t (turn_end_is.Trap signal)
TiedIn w p threads turns guest phase.Gone = ¬ IsLiveIn w p
TiedIn w p threads turns guest phase.Lost = Unit {0}

-- in the world of the history that the process's pass has seen
abbrev pub Tied : Launch → Passing → Body → Phase → Type 0
Tied launch pass body now = TiedIn (world launch pass.seen) pass.pid body.threads body.turns body.guest now

-- the same of a launch that may begin with its tree and its grants
abbrev pub IsTied : Launch → Passing → Body → Phase → Type 0
IsTied launch pass body now = MayBegin launch.tree launch.grants × Tied launch pass body now

-- what contracts see of a process that has these parts
abbrev pub standing_of : Passing → Body → Phase → Standing
standing_of pass body now = record {
  pid = pass.pid;
  phase = now;
  threads = body.threads;
  left = body.guest.left;
  turns = body.turns;
  seen = pass.seen;
  own = own pass.pid pass.seen;
}

-- ---- conditions

-- the pass that a run's begin gives for process 0
abbrev pub new_pass : Passing
new_pass = record { pid = 0; seen = [] }

-- process 0 at the start of its launch
abbrev pub first_standing : Launch → Standing
first_standing launch = record {
  pid = 0;
  phase = phase.Lives;
  threads = insert empty 1 doing.Runs;
  left = launch.turns;
  turns = [];
  seen = [];
  own = [];
}

-- thread t takes turns, and is between two of them
abbrev pub RunsIn : ℕ → Standing → Type 0
RunsIn t s = (s.phase ≡ phase.Lives) × (get s.threads t ≡ Some doing.Runs)

-- it waits in a call
abbrev pub WaitsIn : ℕ → Standing → Type 0
WaitsIn t s = (s.phase ≡ phase.Lives) × (get s.threads t ≡ Some doing.Waits)

-- an end of this kind by thread t is due
abbrev pub IsDue : EndBy → ℕ → Standing → Type 0
IsDue (end_by.Trap signal) t s = s.phase ≡ phase.Traps t signal
IsDue end_by.Expire t s = RunsIn t s × (s.left ≡ 0)
