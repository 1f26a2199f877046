-- What a step of a thread makes of its process, by the phase that the process was in and by what the thread does.
--     Enters, EntersNone      what the step adds to the entries that the process did
--     Becomes, IsAsked      what comes of what a thread asks the kernel for
--     IsCalled, IsForked, IsFinished, IsEnded      a call, a proc_fork, a wake, and an end from outside
--     IsRun      a turn and what it ends in
--     IsStepped      a step
--     HasSeen, IsLooked      a look
use Rattle.std.specs.Prelude.{◌≡◌, ◌⊎◌, ◌<◌, ◌-◌, ℕ, Bool, false, true, [], ◌∷◌, ◌++◌, Option, None, Some}
use Rattle.std.specs.FinMap.{get, insert, remove}
use Rattle.abi_types.specs.declared.call.Call.{Call}
use Rattle.abi_types.specs.declared.call.Call.TheVariants.{ProcFork}
use Rattle.run_types.specs.declared.history.Act.{Act}
use Rattle.run_types.specs.declared.history.Act.TheVariants as act
use Rattle.run_types.specs.declared.launch.Launch.{Launch}
use Rattle.rv_interp.specs.declared.turns.TurnEnd.{TurnEnd}
use Rattle.rv_interp.specs.declared.turns.TurnEnd.TheVariants as turn_end_is
use Rattle.run_model.specs.Own.{IsLiveIn}
use Rattle.run_model.specs.World.{share, world}
use Rattle.shared_history.specs.Entries.{entry_of, head_of}
use Rattle.shared_history.specs.Passes.{Later}
use Rattle.kernel_cell.specs.Acting.{EndsOthers, IsNotReady, MayCome, child_of}
use Rattle.kernel_cell.specs.Asking.{Answers, IsWake}
use Rattle.kernel_cell.specs.Results.{Threads}
use Rattle.kernel_cell.specs.declared.results.After.{After}
use Rattle.kernel_cell.specs.declared.results.After.TheVariants as to
use Rattle.kernel_cell.specs.declared.results.Asked.{Asked}
use Rattle.kernel_cell.specs.declared.results.Asked.TheVariants as asked
use Rattle.kernel_cell.specs.declared.results.Came.{Came}
use Rattle.kernel_cell.specs.declared.results.Came.TheVariants as came
use Rattle.kernel_cell.specs.declared.results.Doing.{Doing}
use Rattle.kernel_cell.specs.declared.results.Doing.TheVariants as doing
use Rattle.kernel_cell.specs.declared.results.EndBy.{EndBy}
use Rattle.kernel_cell.specs.declared.results.EndBy.TheVariants as end_by
use Rattle.process_cell.specs.Phases.{alone, is_yield, phase_after_turn}
use Rattle.process_cell.specs.Standing.{Standing}
use Rattle.process_cell.specs.declared.results.Phase.{Phase}
use Rattle.process_cell.specs.declared.results.Phase.TheVariants as phase

-- ---- entries

-- The process did one entry more, which answers what thread t asked for, after the turns that no entry had yet. Each turn now is in an entry.
pub record Enters (t : ℕ) (before : Standing) (what : Asked) (after : Standing) : Type 0 where
  pub act : Act
  pub answers : Answers what act
  pub moment : ℕ
  pub own : after.own ≡ before.own ++ entry_of (head_of moment before.pid t before.turns) act ∷ []
  pub turns : after.turns ≡ []

abbrev pub EntersNone : Standing → Standing → Type 0
EntersNone before after = after.own ≡ before.own

-- ---- what comes of it

-- the process lives on with the turns that it had left, and its threads do this
pub record LivesOn (before after : Standing) (threads : Threads) : Type 0 where
  pub lives : after.phase ≡ phase.Lives
  pub left : after.left ≡ before.left
  pub threads_are : after.threads ≡ threads

-- the threads where thread t goes on, which ran before its call, and waited before its wake
abbrev pub running : Asked → ℕ → Threads → Threads
running asked.Wakes t threads = insert threads t doing.Runs
running what t threads = threads

-- the threads where it waits, which it did before its wake too
abbrev pub waiting : Asked → ℕ → Threads → Threads
waiting asked.Wakes t threads = threads
waiting what t threads = insert threads t doing.Waits

-- The process lives on: its thread goes on, or beside one that was not there before, or waits, or has ended, or goes on in another program with
-- no other thread. Or memory ran out for the program that began by its call, or the process has ended.
abbrev pub Becomes : ℕ → Asked → Standing → Standing → Act → After → Type 0
Becomes t what before after a to.Runs = LivesOn before after (running what t before.threads)
Becomes t what before after a (to.Starts u) = LivesOn before after (insert before.threads u doing.Runs) × (get before.threads u ≡ None)
Becomes t what before after a to.Waits = LivesOn before after (waiting what t before.threads)
Becomes t what before after a to.Leaves = LivesOn before after (remove before.threads t)
Becomes t what before after a to.Begins = LivesOn before after (alone t)
Becomes t what before after a to.Lost = (after.phase ≡ phase.Lost) × EndsOthers a
Becomes t what before after a to.Ended = after.phase ≡ phase.Gone

-- a thread gives way to others after this act: a thread_yield, or a wake
abbrev pub asks_way : Act → Bool
asks_way (act.Call call given) = is_yield call
asks_way (act.Wake call given answered) = true
asks_way a = false

-- What thread t asked for came as an entry, and this of it. Or the thread, which waits, isn't ready, and then nothing of the process changed but
-- the history that it has seen, in which others alone did entries; or the process had ended before; or memory ran out before the entry. The thread
-- gives way, or not, as is said.
abbrev pub IsAsked : Launch → ℕ → Asked → Standing → Standing → Came After → Bool → Type 0
IsAsked launch t what before after (came.Done x) gives =
    (entered : Enters t before what after) × MayCome what x × Becomes t what before after entered.act x × (asks_way entered.act ≡ true → gives ≡ true)
IsAsked launch t what before after came.NotReady gives =
    (after ≡ record before { seen = after.seen }) × IsNotReady launch after.seen after.pid t × IsWake what
IsAsked launch t what before after came.Gone gives = (after.phase ≡ phase.Gone) × EntersNone before after
IsAsked launch t what before after came.NoMemory gives = (after.phase ≡ phase.Lost) × EntersNone before after

-- A thread's call is asked for. But a proc_fork isn't: the thread stands at it still.
abbrev pub IsCalled : Launch → ℕ → Standing → Standing → Came After → Bool → Type 0
IsCalled launch t before after result gives =
    ((call : Call) × IsAsked launch t (asked.Calls call) before after result gives)
    ⊎ ((after ≡ record before { phase = phase.Forks t }) × (result ≡ came.Done to.Runs))

abbrev pub IsFinished : Launch → ℕ → Standing → Standing → Came After → Bool → Type 0
IsFinished launch t before after result gives = IsAsked launch t asked.Wakes before after result gives

abbrev pub IsEnded : Launch → EndBy → ℕ → Standing → Standing → Came After → Bool → Type 0
IsEnded launch how t before after result gives = IsAsked launch t (asked.Ends how) before after result gives

-- ---- children

-- what came of a proc_fork, if an entry came
abbrev pub born : {X : Type 0} → Came (Option X) → Option X
born (came.Done child) = child
born came.NotReady = None
born came.Gone = None
born came.NoMemory = None

-- a process that gives a child its sixteenth lives on with the turns that are left then, and its threads as they were
pub record GivesShare (before after : Standing) : Type 0 where
  pub lives : after.phase ≡ phase.Lives
  pub left : after.left ≡ before.left - share before.left
  pub threads_are : after.threads ≡ before.threads

-- The child has the thread with this number alone, which takes turns, and a sixteenth of the turns that its parent had left. It has seen the
-- history that its parent has, and did no entry of it.
pub record IsChildOf (t : ℕ) (before after child : Standing) : Type 0 where
  pub lives : child.phase ≡ phase.Lives
  pub threads_are : child.threads ≡ alone t
  pub left : child.left ≡ share before.left
  pub turns : child.turns ≡ []
  pub seen : child.seen ≡ after.seen
  pub none : child.own ≡ []

-- the proc_fork is an entry, which tells this child
pub record EntersFork (t : ℕ) (before after : Standing) (child : Option ℕ) : Type 0 where
  pub entry : Enters t before (asked.Calls (ProcFork before.left)) after
  pub tells : child_of entry.act ≡ child

-- A proc_fork is an entry, and its thread goes on: with the child that its answer tells, after which it gives way, or without one where it tells
-- none. Or the process had ended before it; or memory ran out before it.
abbrev pub IsForked : ℕ → Standing → Standing → Came After → Bool → Option Standing → Type 0
IsForked t before after (came.Done to.Runs) gives None = LivesOn before after before.threads × EntersFork t before after None
IsForked t before after (came.Done to.Runs) gives (Some child) =
    GivesShare before after × EntersFork t before after (Some child.pid) × IsChildOf t before after child × (gives ≡ true)
IsForked t before after came.Gone gives None = (after.phase ≡ phase.Gone) × EntersNone before after
IsForked t before after came.NoMemory gives None = (after.phase ≡ phase.Lost) × EntersNone before after
IsForked t before after other gives child = ⊥

-- ---- turns

-- what a turn of thread t that ended so leaves
abbrev pub turned_standing : ℕ → Standing → TurnEnd → Standing
turned_standing t s end = record s { phase = phase_after_turn t end; left = s.left - 1; turns = s.turns ++ t ∷ [] }

-- what comes of a turn that ended so and left this: the thread goes on, or makes the call at which it ended, or ends its process by the trap
abbrev pub Follows : Launch → ℕ → TurnEnd → Standing → Standing → Came After → Bool → Type 0
Follows launch t turn_end_is.Quantum turned after result gives = (after ≡ turned) × (result ≡ came.Done to.Runs)
Follows launch t turn_end_is.Ecall turned after result gives = IsCalled launch t turned after result gives
Follows launch t (turn_end_is.Trap signal) turned after result gives = IsEnded launch (end_by.Trap signal) t turned after result gives

-- one turn was taken, with what it ended in; or memory ran out before it, and nothing changed
abbrev pub IsRun : Launch → ℕ → Standing → Standing → Came After → Bool → Type 0
IsRun launch t before after result gives =
    ((end : TurnEnd) × Follows launch t end (turned_standing t before end) after result gives)
    ⊎ ((after ≡ before) × (result ≡ came.NoMemory))

-- ---- a step

-- A thread that takes turns takes one where one is left, and else its process expires. One that waits wakes where it is ready. Where there is
-- no such thread nothing happens.
abbrev pub StepsAs : Launch → ℕ → Option Doing → Standing → Standing → Came After → Bool → Type 0
StepsAs launch t (Some doing.Runs) before after result gives =
    (0 < before.left → IsRun launch t before after result gives) × (before.left ≡ 0 → IsEnded launch end_by.Expire t before after result gives)
StepsAs launch t (Some doing.Waits) before after result gives = IsFinished launch t before after result gives
StepsAs launch t None before after result gives = (after ≡ before) × (result ≡ came.Gone)

-- A process whose last turn ended at a call or by a trap does what that asks for. One that stands at a proc_fork, is gone or lost stays as it is.
abbrev pub StepsFrom : Launch → ℕ → Phase → Standing → Standing → Came After → Bool → Type 0
StepsFrom launch t phase.Lives before after result gives = StepsAs launch t (get before.threads t) before after result gives
StepsFrom launch t (phase.Calls u) before after result gives = IsCalled launch u before after result gives
StepsFrom launch t (phase.Forks u) before after result gives = (after ≡ before) × (result ≡ came.Done to.Runs)
StepsFrom launch t (phase.Traps u signal) before after result gives = IsEnded launch (end_by.Trap signal) u before after result gives
StepsFrom launch t phase.Gone before after result gives = (after ≡ before) × (result ≡ came.Gone)
StepsFrom launch t phase.Lost before after result gives = (after ≡ before) × (result ≡ came.NoMemory)

abbrev pub IsStepped : Launch → ℕ → Standing → Standing → Came After → Bool → Type 0
IsStepped launch t before after result gives = StepsFrom launch t before.phase before after result gives

-- ---- a look

-- The process has seen a history, in which others alone did entries since. It is gone exactly where that ended it.
pub record HasSeen (launch : Launch) (before after : Standing) : Type 0 where
  pub later : Later before.pid before.seen after.seen
  pub lives : after.phase ≡ phase.Lives → IsLiveIn (world launch after.seen) before.pid
  pub gone : after.phase ≡ phase.Gone → ¬ IsLiveIn (world launch after.seen) before.pid

-- Nothing of the process changed but the history that it has seen, and that it may be known to have ended. Between two steps it has looked.
pub record IsLooked (launch : Launch) (before after : Standing) : Type 0 where
  pub same : after ≡ record before { phase = after.phase; seen = after.seen }
  pub ended : (after.phase ≡ before.phase) ⊎ (after.phase ≡ phase.Gone)
  pub looked : before.phase ≡ phase.Lives → HasSeen launch before after
