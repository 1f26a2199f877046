-- What an entry may read and change of the kernel's state, and when it is denied.
use Rattle.std.specs.Prelude.{◌≡◌, ◌≢◌, ◌⊎◌, ℕ, true, false, List, ◌∷◌, ◌++◌, Some, IsSome}
use Rattle.std.specs.FinMap.{get}
use Rattle.abi_types.specs.declared.reply.Answer.{Answer}
use Rattle.abi_types.specs.declared.reply.Answer.TheVariants as answer
use Rattle.abi_types.specs.declared.call.Call.{Call}
use Rattle.abi_types.specs.declared.reply.Reply.{Reply}
use Rattle.abi_types.specs.declared.constants.Constants.{Constants}
use Rattle.abi_types.specs.declared.descriptor.Denial.{Denial}
use Rattle.abi_types.specs.declared.descriptor.Denial.TheVariants.{Outside}
use Rattle.abi_types.specs.declared.descriptor.Descriptor.{Descriptor}
use Rattle.abi_base.specs.declared.errno.Errno.TheVariants.{Success, Badf, Fault, Notcapable}
use Rattle.abi_types.specs.declared.needed.Needed.{Needed}
use Rattle.abi_base.specs.declared.signal.Signal.TheVariants.{Xcpu}
use Rattle.abi_types.specs.declared.status.Status.{Status}
use Rattle.abi_types.specs.declared.status.Status.TheVariants.{Killed}
use Rattle.run_types.specs.declared.history.Act.{Act}
use Rattle.run_types.specs.declared.history.Act.TheVariants as act
use Rattle.run_types.specs.declared.history.Entry.{Entry}
use Rattle.run_types.specs.declared.launch.Launch.{Launch}
use Rattle.abi_types.specs.declared.reply.WordWrite.{WordWrite}
use Rattle.abi_types.specs.declared.reply.WordWrites.{WordWrites}
use Rattle.abi_types.specs.declared.reply.WordWrites.TheVariants.{Two}
use Rattle.abi_types.specs.declared.wake.WakeIn.{WakeIn}
use Rattle.abi_types.specs.declared.wake.WakeIn.TheVariants as wake
use Rattle.abi_types.specs.declared.who.Who.{Who}
use Rattle.kernel_model.specs.CallBounds.{IsAbsentIn}
use Rattle.kernel_model.specs.Calls.{named, need}
use Rattle.kernel_model.specs.Families.Locks.{with_word}
use Rattle.kernel_model.specs.Laws.{HasSameSight, EndsAlike, HasAll, IsFirstLack, IsOfFirstLack, IsOfPath, IsListed}
use Rattle.kernel_model.specs.Need.{missing}
use Rattle.kernel_model.specs.Outcome.{is_parked}
use Rattle.kernel_model.specs.OwnChanges.{begins_to_sleep}
use Rattle.kernel_model.specs.Release.{is_released}
use Rattle.kernel_model.specs.Reply.{denied, refused}
use Rattle.kernel_model.specs.Sight.{process_parts}
use Rattle.kernel_model.specs.State.{State, Table, Part, at_clock, same_part, has_part, Agree, AgreeOn}
use Rattle.kernel_model.specs.Step.{sight, outcome, outside, unreleased, failed, IsStep, IsUntouched, end_unreleased}
use Rattle.kernel_model.specs.WaitLaws.{asleep, parked, JumpsTo, ResumesOnly}
use Rattle.kernel_model.specs.Waits.{may_wait, resumed}
use Rattle.kernel_model.specs.Wakes.{may_queue}
use Rattle.run_model.specs.World.{World, who_of, apply, world}

-- the kernel may give this answer to the call
abbrev pub MayAnswer : Constants → State → Who → Call → Answer → Type 0
MayAnswer constants S who call given = (T : State) × IsStep constants S who call given T

-- A call that was answered so is confined, S being the state before it and T the state after it. In each state of which it
-- sees the same, it may be answered so, and it answers and sets the same; and where the release after such an answer ends
-- the same of the opens that it sees, each part that it sees has the same value after both. Each part that it does not
-- touch and that the release after it does not end has the value it had. Where each descriptor that it names is there and
-- some lacks a right, it is denied with exactly what the first of these lacks. Where a path of it leads outside it is denied
-- for that, with the component. It is denied in no other case, and an answer of NOTCAPABLE says what is missing or where. It
-- answers BADF only where a descriptor that it names is absent, and no error but those that are listed for it. An answer with an
-- error changes only the clock. Its thread waits in it only where it may, and then only the clock changes and that the thread waits; and where
-- it begins to wait at a condition variable, how others wait for its lock, which is handed on.
pub record CallIsConfined (constants : Constants) (S : State) (who : Who) (call : Call) (given : Answer) (T : State) : Type 0 where
  pub answers : (U : State) → HasSameSight S U who call → MayAnswer constants U who call given
  pub sets : (U : State) → HasSameSight S U who call → outcome constants S who call ≡ outcome constants U who call
  pub leaves : (U V : State) → HasSameSight S U who call
      → EndsAlike (unreleased constants S who call) (unreleased constants U who call) (sight S who call)
      → IsStep constants U who call given V → AgreeOn T V (sight S who call)
  pub changes : (part : Part) → IsUntouched constants S who call part → Agree T S part
  pub lacking : (table : Table) (row : Needed) (d : Descriptor) → get S.tables who.pid ≡ Some table → HasAll table (named call)
      → IsFirstLack table (need call) row d → given ≡ answer.Reply (denied (missing d row))
  pub leaving : (component : ℕ) → outside S who call ≡ Some component → given ≡ answer.Reply (denied (Outside component))
  pub only : (reply : Reply) (denial : Denial) → given ≡ answer.Reply reply → reply.denial ≡ Some denial
      → IsOfFirstLack S who call denial ⊎ IsOfPath S who call denial
  pub reported : (reply : Reply) → given ≡ answer.Reply reply → reply.errno ≡ Notcapable → IsSome reply.denial
  pub absent : (reply : Reply) → given ≡ answer.Reply reply → reply.errno ≡ Badf → IsAbsentIn S who call
  pub listed : (reply : Reply) → given ≡ answer.Reply reply → IsListed constants S who call reply
  pub error : (reply : Reply) → given ≡ answer.Reply reply → reply.errno ≢ Success → T ≡ failed S who
  pub waits : (writes : WordWrites) → given ≡ answer.Parked writes → may_wait call ≡ true
  pub parks : (writes : WordWrites) → given ≡ answer.Parked writes → begins_to_sleep given ≡ false → T ≡ parked constants S who call
  pub sleeps : (condvar lock : WordWrite) → given ≡ answer.Parked (Two condvar lock) → T ≡ asleep constants S who call lock.address

-- The end of process p with this status is confined: each part but the clock, what is the process's own, its status and
-- what the release ends has the value it had.
abbrev pub EndIsConfined : State → ℕ → Status → State → Type 0
EndIsConfined S p status T =
    (part : Part) → has_part (process_parts p) part ≡ false → is_released (end_unreleased S p status) part ≡ false → Agree T S part

-- Each part but the clock has the value it had.
abbrev pub OnlyClockChanges : State → State → Type 0
OnlyClockChanges S T = (part : Part) → same_part at_clock part ≡ false → Agree T S part

-- A wake of a thread that waits in the call is confined: the state in which the thread runs differs in nothing else, and from there
-- the call is confined, with the word that its lock has now. Where that or the places of the call's output can't be written any more it is
-- refused, and only the clock moves. The thread waits no more, or it has left its condition variable and waits for the lock.
pub record WakeIsConfined (constants : Constants) (S : State) (who : Who) (call : Call) (given : WakeIn) (answered : Answer) (T : State) : Type 0 where
  pub resumes : ResumesOnly S who (resumed S who)
  pub done : (word : ℕ) → given ≡ wake.Plain word → CallIsConfined constants (resumed S who) who (with_word word call) answered T
  pub faults : given ≡ wake.Fault → (answered ≡ answer.Reply (refused Fault)) × (T ≡ failed (resumed S who) who)
  pub ends : is_parked answered ≡ true → may_queue call who.stage ≡ true

-- What a thread does is confined. An idle jump changes the clock alone, which goes on by what each entry takes, or to the least deadline.
abbrev pub ActIsConfined : Constants → State → Who → Act → State → Type 0
ActIsConfined constants S who (act.Call call given) T = CallIsConfined constants S who call given T
ActIsConfined constants S who (act.Wake call given answered) T = WakeIsConfined constants S who call given answered T
ActIsConfined constants S who (act.Trap signal) T = EndIsConfined S who.pid (Killed signal) T
ActIsConfined constants S who act.Expire T = EndIsConfined S who.pid (Killed Xcpu) T
ActIsConfined constants S who act.Idle T = OnlyClockChanges S T × JumpsTo S T

-- what the entry does to this world is confined
abbrev pub EntryIsConfined : World → Entry → Type 0
EntryIsConfined w e = ActIsConfined w.constants w.state (who_of w.state e) e.act (apply w e).state

-- each entry of the history is confined
abbrev pub IsConfined : Launch → List Entry → Type 0
IsConfined launch history =
    (front : List Entry) (e : Entry) (rest : List Entry) → history ≡ front ++ e ∷ rest → EntryIsConfined (world launch front) e
