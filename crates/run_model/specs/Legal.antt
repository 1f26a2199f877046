-- Which histories a launch may have.
use Rattle.std.specs.Prelude.{◌≡◌, ℕ, ◌<◌, true, false, List, [], ◌∷◌, ◌++◌, Some}
use Rattle.abi_types.specs.declared.constants.Constants.{Constants}
use Rattle.abi_types.specs.declared.thread.Thread.TheVariants.{Runnable}
use Rattle.abi_types.specs.declared.who.Who.{Who}
use Rattle.run_types.specs.declared.history.Act.{Act}
use Rattle.run_types.specs.declared.history.Act.TheVariants as act
use Rattle.run_types.specs.declared.history.Entry.{Entry}
use Rattle.run_types.specs.declared.launch.Launch.{Launch}
use Rattle.kernel_model.specs.State.{State, thread_of}
use Rattle.kernel_model.specs.Step.{IsStep}
use Rattle.kernel_model.specs.Waits.{WaitsIn}
use Rattle.kernel_model.specs.Wakes.{is_ready, IsWake, MayJump}
use Rattle.rv_interp.specs.declared.turns.TurnEnd.{TurnEnd}
use Rattle.rv_interp.specs.declared.turns.TurnEnd.TheVariants as turn_end_is
use Rattle.call_codec.specs.Arguments.{args_of}
use Rattle.call_codec.specs.Given.{given_of}
use Rattle.run_model.specs.Own.{is_idle, IsLiveIn}
use Rattle.run_model.specs.World.{World, Guest, guest_of, registers_of, turn_end, turned_guest, turned_guest_by, called_state, woken_state, who_of, apply, start_world}

-- the thread is live and takes its turns
abbrev pub IsRunnable : State → ℕ → ℕ → Type 0
IsRunnable S p t = thread_of S p t ≡ Some Runnable

-- a turn may be the thread's: it is runnable, and its process has a turn left
abbrev pub MayTurn : State → ℕ → Guest → ℕ → Type 0
MayTurn S p guest t = IsRunnable S p t × (0 < guest.left)

-- turns of these threads, each of which ends because it did as many instructions as a turn has
abbrev pub AreWhole : State → ℕ → Guest → List ℕ → Type 0
AreWhole S p guest [] = Unit {0}
AreWhole S p guest (t ∷ ts) = MayTurn S p guest t × (turn_end guest t ≡ turn_end_is.Quantum) × AreWhole S p (turned_guest guest t) ts

-- turns of which the last is the thread's and ends so, and the others are whole
abbrev pub LastEnds : State → ℕ → Guest → List ℕ → ℕ → TurnEnd → Type 0
LastEnds S p guest ts t end =
    (front : List ℕ) × (ts ≡ front ++ t ∷ []) × AreWhole S p guest front
    × MayTurn S p (turned_guest_by front guest) t × (turn_end (turned_guest_by front guest) t ≡ end)

-- What a thread and its process ask for by an act, before the kernel answers. S is the kernel's state before the entry, of which only the
-- threads of the process matter, and guest is the process's:
-- A call is the one that the thread's registers and memory encode at the ECALL that ended the last turn, with the turns that are left then. A
-- wake is of the call that the thread waits in, after whole turns, and is given what the thread's registers and memory say of the word of its
-- lock and of the places of its output. A trap is the one that ended the last turn. A process expires where a runnable thread has no turn
-- left. An idle jump has no turns, and the number 0 for its process and its thread.
abbrev pub Asks : State → Who → Guest → List ℕ → Act → Type 0
Asks S who guest ts (act.Call call given) =
    LastEnds S who.pid guest ts who.tid turn_end_is.Ecall
    × (call ≡ args_of (turned_guest_by ts guest).memory (registers_of (turned_guest_by ts guest) who.tid) (turned_guest_by ts guest).left)
Asks S who guest ts (act.Wake call given answered) =
    AreWhole S who.pid guest ts × WaitsIn S who call
    × (given ≡ given_of (turned_guest_by ts guest).memory (registers_of (turned_guest_by ts guest) who.tid) call)
Asks S who guest ts (act.Trap signal) = LastEnds S who.pid guest ts who.tid (turn_end_is.Trap signal)
Asks S who guest ts act.Expire = AreWhole S who.pid guest ts × IsRunnable S who.pid who.tid × ((turned_guest_by ts guest).left ≡ 0)
Asks S who guest ts act.Idle = (who.pid ≡ 0) × (who.tid ≡ 0) × (ts ≡ [])

-- The answer to a call is one that the kernel may give, and it leaves the state that the answer says. The thread of a wake is ready, and
-- the answer to its call, with the word that its lock has now, is one that the kernel may give then. Time jumps only where each thread
-- waits, none is ready, and one has a deadline. No other act has an answer.
abbrev pub IsAnswered : Constants → State → Who → Act → Type 0
IsAnswered constants S who (act.Call call given) = IsStep constants S who call given (called_state constants S who call given)
IsAnswered constants S who (act.Wake call given answered) =
    (is_ready constants S who.pid who.tid ≡ true) × IsWake constants S who call given answered (woken_state constants S who call given answered)
IsAnswered constants S who (act.Trap signal) = Unit {0}
IsAnswered constants S who act.Expire = Unit {0}
IsAnswered constants S who act.Idle = MayJump constants S

-- what an act needs of the world before its entry
abbrev pub FitsAct : Constants → State → Who → Guest → List ℕ → Act → Type 0
FitsAct constants S who guest ts a = Asks S who guest ts a × IsAnswered constants S who a

-- The entry may follow where the world is so. Its process is live, unless it is an idle jump.
pub record Fits (w : World) (e : Entry) : Type 0 where
  pub live : is_idle e.act ≡ false → IsLiveIn w e.pid
  pub act : FitsAct w.constants w.state (who_of w.state e) (guest_of w e.pid) e.turns e.act
  pub moment : e.moment ≡ (apply w e).state.clock

-- each entry fits the world of those before it
unfoldable pub FollowsFrom : World → List Entry → Type 0
FollowsFrom w [] = Unit {0}
FollowsFrom w (e ∷ es) = Fits w e × FollowsFrom (apply w e) es

-- the history is one that the launch may have
unfoldable pub Legal : Launch → List Entry → Type 0
Legal launch history = FollowsFrom (start_world launch) history
