-- What holds of every legal history: the statements that are the contracts of the functions of src/laws.rt.
use Rattle.std.specs.Prelude.{◌≡◌, ◌≢◌, ◌⊎◌, ◌+◌, ◌*◌, ◌^◌, ◌<◌, ◌≤◌, ℕ, false, List, [], ◌∷◌, ◌++◌, length, Option, Some}
use Rattle.abi_types.specs.declared.reply.Answer.TheVariants as answer
use Rattle.std.specs.List.{AllByRecursion}
use Rattle.abi_base.specs.declared.errno.Errno.TheVariants.{Nomem, Notcapable}
use Rattle.abi_base.specs.Registers.{Registers}
use Rattle.abi_types.specs.declared.call.Call.{Call}
use Rattle.abi_types.specs.declared.reply.WordWrites.{WordWrites}
use Rattle.abi_types.specs.declared.thread.Stage.{Stage}
use Rattle.abi_types.specs.declared.thread.Thread.TheVariants.{Waits}
use Rattle.run_types.specs.declared.history.Act.{Act}
use Rattle.run_types.specs.declared.history.Act.TheVariants as act
use Rattle.run_types.specs.declared.history.Entry.{Entry}
use Rattle.run_types.specs.declared.launch.Launch.{Launch}
use Rattle.tree_model.specs.Grants.{MayBegin}
use Rattle.kernel_model.specs.CallBounds.{IsBadfBefore}
use Rattle.kernel_model.specs.Calls.{errors_of}
use Rattle.kernel_model.specs.Families.Locks.{with_word}
use Rattle.kernel_model.specs.State.{thread_of}
use Rattle.kernel_model.specs.Valid.{IsValid}
use Rattle.kernel_model.specs.Waits.{HasDeadlines}
use Rattle.guest_memory.specs.Page.{Pages}
use Rattle.call_codec.specs.Arguments.{args_of, Encodes}
use Rattle.run_model.specs.Confined.{IsConfined}
use Rattle.run_model.specs.Ends.{Ended, Stalled, turns_taken, potential}
use Rattle.run_model.specs.Legal.{Fits, Legal}
use Rattle.run_model.specs.Own.{is_idle}
use Rattle.run_model.specs.World.{World, apply, guest_of, registers_of, world}

-- ---- legal histories

-- The empty history is legal.
abbrev pub LegalBegins : Type 0
LegalBegins = (launch : Launch) → Legal launch []

-- An entry that fits the world of a legal history may follow it.
abbrev pub LegalGoesOn : Type 0
LegalGoesOn = (launch : Launch) (history : List Entry) (e : Entry) → Legal launch history → Fits (world launch history) e → Legal launch (history ++ e ∷ [])

-- What stands before an entry of a legal history is legal, and the entry fits its world.
abbrev pub EachEntryFits : Type 0
EachEntryFits =
    (launch : Launch) (front : List Entry) (e : Entry) (rest : List Entry) → Legal launch (front ++ e ∷ rest)
    → Legal launch front × Fits (world launch front) e

-- memory didn't run out where the act was done
abbrev pub LacksNothing : Act → Type 0
LacksNothing (act.Call call (answer.Parked writes)) = Unit {0}
LacksNothing (act.Call call (answer.Reply reply)) = reply.errno ≢ Nomem
LacksNothing (act.Wake call given (answer.Parked writes)) = Unit {0}
LacksNothing (act.Wake call given (answer.Reply reply)) = reply.errno ≢ Nomem
LacksNothing (act.Trap signal) = Unit {0}
LacksNothing act.Expire = Unit {0}
LacksNothing act.Idle = Unit {0}

-- Where a thread and the turns before it are given, and memory doesn't run out, at most one entry may follow.
abbrev pub EntryIsOne : Type 0
EntryIsOne =
    (w : World) (e f : Entry) → Fits w e → Fits w f → e.pid ≡ f.pid → e.tid ≡ f.tid → e.turns ≡ f.turns → LacksNothing e.act → LacksNothing f.act
    → e ≡ f

-- A legal history of a launch with proper grants is confined.
abbrev pub LegalIsConfined : Type 0
LegalIsConfined = (launch : Launch) (history : List Entry) → Legal launch history → MayBegin launch.tree launch.grants → IsConfined launch history

-- ---- calls

-- No call that memory and registers encode answers NOMEM or NOTCAPABLE of its own.
abbrev pub EncodedIsPlain : Type 0
EncodedIsPlain =
    (m : Pages) (r : Registers) (left : ℕ) → AllByRecursion (λ errno. (errno ≢ Nomem) × (errno ≢ Notcapable)) (errors_of (args_of m r left))

-- None has BADF before the kernel looks at it, and none is a file_stat_fput that sets nothing.
abbrev pub EncodedIsNotBadf : Type 0
EncodedIsNotBadf = (m : Pages) (r : Registers) (left : ℕ) → ¬ IsBadfBefore (args_of m r left)

-- ---- worlds

-- The kernel's state of each legal history is valid, if the launch's grants are proper.
abbrev pub WorldIsValid : Type 0
WorldIsValid = (launch : Launch) (history : List Entry) → MayBegin launch.tree launch.grants → Legal launch history → IsValid (world launch history).state

-- In it each thread that waits does until its call's deadline.
abbrev pub WorldHasDeadlines : Type 0
WorldHasDeadlines =
    (launch : Launch) (history : List Entry) → MayBegin launch.tree launch.grants → Legal launch history
    → HasDeadlines (world launch history).constants (world launch history).state

-- the thread that made the first call waits in the second one: it is the same but for the word of its lock, which may have changed since
abbrev pub IsOfCall : Call → Call → Type 0
IsOfCall asked call = with_word 0 asked ≡ with_word 0 call

-- Each call that a thread waits in was made by an entry of the history, to which the kernel answered that the thread waits; the moment
-- since which it waits is that of the entry; and memory and registers encoded the call. It has the word of its lock of then, or, where the thread
-- has left its condition variable since, that of its wake.
pub record WasCalled (history : List Entry) (p t : ℕ) (call : Call) (since : ℕ) : Type 0 where
  pub front : List Entry
  pub e : Entry
  pub rest : List Entry
  pub asked : Call
  pub writes : WordWrites
  pub there : history ≡ front ++ e ∷ rest
  pub process : e.pid ≡ p
  pub thread : e.tid ≡ t
  pub made : e.act ≡ act.Call asked (answer.Parked writes)
  pub same : IsOfCall asked call
  pub moment : e.moment ≡ since
  pub memory : Pages
  pub registers : Registers
  pub encoded : Encodes memory registers asked

abbrev pub WaitsWereCalled : Type 0
WaitsWereCalled =
    (launch : Launch) (history : List Entry) (p t : ℕ) (call : Call) (since : ℕ) (until : Option ℕ) (stage : Stage) → MayBegin launch.tree launch.grants
    → Legal launch history → thread_of (world launch history).state p t ≡ Some (Waits call since until stage) → WasCalled history p t call since

-- A thread that waits has still the registers that encoded the call that it made, with some memory.
abbrev pub WaitsAreEncoded : Type 0
WaitsAreEncoded =
    (launch : Launch) (history : List Entry) (p t : ℕ) (call : Call) (since : ℕ) (until : Option ℕ) (stage : Stage) → MayBegin launch.tree launch.grants
    → Legal launch history → thread_of (world launch history).state p t ≡ Some (Waits call since until stage)
    → (m : Pages) × (asked : Call) × Encodes m (registers_of (guest_of (world launch history) p) t) asked × IsOfCall asked call

-- Time goes on by 1000 nanoseconds from the world w to the world v, or more where the act between them is an idle jump. A jump that takes
-- longer leads to a deadline, of which none counts that is later than 2^62.
pub record TakesTime (w v : World) (a : Act) : Type 0 where
  pub exact : is_idle a ≡ false → v.state.clock ≡ w.state.clock + 1000
  pub least : w.state.clock + 1000 ≤ v.state.clock
  pub most : (v.state.clock ≡ w.state.clock + 1000) ⊎ (v.state.clock ≤ 2 ^ 62)

-- So it is with each entry.
abbrev pub EntryTakesTime : Type 0
EntryTakesTime = (w : World) (e : Entry) → Fits w e → TakesTime w (apply w e) e.act

-- The clock of a legal history is at 1000 nanoseconds for each entry at least, and at no more than that and 2^62 for the jumps.
abbrev pub ClockCounts : Type 0
ClockCounts =
    (launch : Launch) (history : List Entry) → Legal launch history
    → (1000 * length history ≤ (world launch history).state.clock) × ((world launch history).state.clock ≤ 2 ^ 62 + 1000 * length history)

-- no entry of the history is an idle jump
abbrev pub HasNoJump : List Entry → Type 0
HasNoJump history = AllByRecursion (λ (e : Entry). is_idle e.act ≡ false) history

-- Where no entry is an idle jump it is at 1000 nanoseconds for each.
abbrev pub ClockIsExact : Type 0
ClockIsExact =
    (launch : Launch) (history : List Entry) → Legal launch history → HasNoJump history → (world launch history).state.clock ≡ 1000 * length history

-- ---- ends

-- The entries of a legal history took no more turns than the launch has.
abbrev pub TurnsAreBounded : Type 0
TurnsAreBounded = (launch : Launch) (history : List Entry) → Legal launch history → turns_taken history ≤ launch.turns

-- Each entry takes from what is left to do.
abbrev pub EntryTakes : Type 0
EntryTakes =
    (w : World) (e : Entry) → IsValid w.state → HasDeadlines w.constants w.state → Fits w e → potential (apply w e) < potential w

-- The entries of a legal history of a launch with proper grants and what is left to do after them are together at most six times the
-- launch's turns and two more. So it has no more entries than that.
abbrev pub HistoryIsShort : Type 0
HistoryIsShort =
    (launch : Launch) (history : List Entry) → MayBegin launch.tree launch.grants → Legal launch history
    → length history + potential (world launch history) ≤ 6 * launch.turns + 2

-- No entry may follow where the run is ended.
abbrev pub EndedIsFinal : Type 0
EndedIsFinal = (launch : Launch) (history : List Entry) (e : Entry) → Ended launch history → Fits (world launch history) e → ⊥

-- No entry may follow where the run is stalled.
abbrev pub StalledIsFinal : Type 0
StalledIsFinal = (launch : Launch) (history : List Entry) (e : Entry) → Stalled launch history → Fits (world launch history) e → ⊥

-- No run is both ended and stalled, if the launch's grants are proper.
abbrev pub EndedOrStalled : Type 0
EndedOrStalled =
    (launch : Launch) (history : List Entry) → MayBegin launch.tree launch.grants → Legal launch history → Ended launch history → Stalled launch history → ⊥

-- The run of a legal history of a launch with proper grants is ended or stalled, or some entry may follow.
abbrev pub EndsOrGoesOn : Type 0
EndsOrGoesOn =
    (launch : Launch) (history : List Entry) → MayBegin launch.tree launch.grants → Legal launch history
    → Ended launch history ⊎ (Stalled launch history ⊎ ((e : Entry) × Fits (world launch history) e))

-- Each launch with proper grants has a legal history whose run is ended or stalled.
abbrev pub RunsToItsEnd : Type 0
RunsToItsEnd =
    (launch : Launch) → MayBegin launch.tree launch.grants
    → (history : List Entry) × Legal launch history × (Ended launch history ⊎ Stalled launch history)
