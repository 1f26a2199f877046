-- What an entry keeps to: what its process has of its own, and what its call reaches, with the rights needed, by the descriptors that the
-- ledger says the process holds.
use Rattle.std.specs.Prelude.{◌≡◌, ◌⊎◌, ℕ, true, false, List, [], ◌∷◌, ◌++◌}
use Rattle.abi_base.specs.declared.signal.Signal.TheVariants.{Xcpu}
use Rattle.abi_types.specs.declared.call.Call.{Call}
use Rattle.abi_types.specs.declared.constants.Constants.{Constants}
use Rattle.abi_types.specs.declared.reply.Answer.{Answer}
use Rattle.abi_types.specs.declared.status.Status.TheVariants.{Killed}
use Rattle.abi_types.specs.declared.wake.WakeIn.{WakeIn}
use Rattle.abi_types.specs.declared.wake.WakeIn.TheVariants as wake
use Rattle.abi_types.specs.declared.who.Who.{Who}
use Rattle.run_types.specs.declared.history.Act.{Act}
use Rattle.run_types.specs.declared.history.Act.TheVariants as act
use Rattle.run_types.specs.declared.history.Entry.{Entry}
use Rattle.run_types.specs.declared.launch.Launch.{Launch}
use Rattle.kernel_model.specs.Calls.{need}
use Rattle.kernel_model.specs.Families.Locks.{with_word}
use Rattle.kernel_model.specs.Laws.{EndsAlike}
use Rattle.kernel_model.specs.Release.{is_released}
use Rattle.kernel_model.specs.Sight.{process_parts}
use Rattle.kernel_model.specs.State.{State, Part, has_part, Agree, AgreeOn}
use Rattle.kernel_model.specs.Step.{made_by, sight, outcome, unreleased, failed, IsStep, IsUntouched}
use Rattle.kernel_model.specs.WaitLaws.{JumpsTo, ResumesOnly}
use Rattle.kernel_model.specs.Waits.{resumed}
use Rattle.kernel_model.specs.Wakes.{is_ready}
use Rattle.run_model.specs.Confined.{EndIsConfined, MayAnswer, OnlyClockChanges}
use Rattle.run_model.specs.World.{world, who_of}
use Rattle.authority_laws.specs.Laws.{IsReachedByHeld, IsReachedByNamed}

-- After these entries the part is the clock, what process p has of its own, or its status; or the call reaches it by a descriptor that the
-- ledger says p holds, and which is traced: with all rights that the call needs of it, or by name alone where the call needs none.
abbrev pub IsInReach : Launch → List Entry → ℕ → Call → Part → Type 0
IsInReach launch front p call part =
    (has_part (process_parts p) part ≡ true)
    ⊎ (IsReachedByHeld launch front p (need call) part ⊎ IsReachedByNamed launch front p call part)

-- both states have the same of all that is in reach
abbrev pub AgreesInReach : Launch → List Entry → ℕ → Call → State → State → Type 0
AgreesInReach launch front p call S U = (part : Part) → IsInReach launch front p call part → Agree S U part

-- A call in state S that is answered so and leaves T keeps to what is in reach after these entries.
pub record CallKeepsWithin (launch : Launch) (front : List Entry) (constants : Constants) (S : State) (who : Who) (call : Call) (given : Answer) (T : State) : Type 0 where
  -- It reads nothing else. In each state that has the same of all that is in reach it may be answered so, and it sets the same;
  pub answers : (U : State) → AgreesInReach launch front who.pid call S U → MayAnswer constants U who call given
  pub sets : (U : State) → AgreesInReach launch front who.pid call S U → outcome constants S who call ≡ outcome constants U who call
  -- and where what it lets go ends the same of what it sees, all that it sees has the same value after it in both.
  pub leaves : (U V : State) → AgreesInReach launch front who.pid call S U
      → EndsAlike (unreleased constants S who call) (unreleased constants U who call) (sight S who call)
      → IsStep constants U who call given V → AgreeOn T V (sight S who call)
  -- It changes nothing else, but for what it makes, which has numbers of its process's counts, and for what ends because nothing
  -- holds it any more.
  pub changes : (part : Part) → ¬ IsInReach launch front who.pid call part → has_part (made_by S who call) part ≡ false
      → is_released (unreleased constants S who call) part ≡ false → Agree T S part
  -- Nor does it change all that it may read: what it doesn't touch and what doesn't so end has the value it had.
  pub untouched : (part : Part) → IsUntouched constants S who call part → Agree T S part

-- A wake keeps to what is in reach of the call that its thread waits in, as it is reached at the wake. By nothing else is the thread ready.
-- The call is done in the state in which the thread runs, with the word that its lock has now; or, where that or the places of its
-- output can't be written any more, nothing is done, and the thread runs.
pub record WakeKeepsWithin (launch : Launch) (front : List Entry) (constants : Constants) (S : State) (who : Who) (call : Call) (given : WakeIn) (answered : Answer) (T : State) : Type 0 where
  pub ready : (U : State) → AgreesInReach launch front who.pid call S U → is_ready constants U who.pid who.tid ≡ true
  pub resumes : ResumesOnly S who (resumed S who)
  pub done : (word : ℕ) → given ≡ wake.Plain word → CallKeepsWithin launch front constants (resumed S who) who (with_word word call) answered T
  pub faults : given ≡ wake.Fault → T ≡ failed (resumed S who) who

-- What a thread does keeps to that. The end of a process by a trap, or for want of turns, changes its own and what ends with it; and an idle
-- jump, which is the host's, moves the clock alone.
abbrev pub ActKeepsWithin : Launch → List Entry → Constants → State → Who → Act → State → Type 0
ActKeepsWithin launch front constants S who (act.Call call given) T = CallKeepsWithin launch front constants S who call given T
ActKeepsWithin launch front constants S who (act.Wake call given answered) T = WakeKeepsWithin launch front constants S who call given answered T
ActKeepsWithin launch front constants S who (act.Trap signal) T = EndIsConfined S who.pid (Killed signal) T
ActKeepsWithin launch front constants S who act.Expire T = EndIsConfined S who.pid (Killed Xcpu) T
ActKeepsWithin launch front constants S who act.Idle T = OnlyClockChanges S T × JumpsTo S T

-- The entry behind these in front of it keeps to that.
abbrev pub KeepsWithinReach : Launch → List Entry → Entry → Type 0
KeepsWithinReach launch front e =
    ActKeepsWithin launch front (world launch front).constants (world launch front).state (who_of (world launch front).state e) e.act
    (world launch (front ++ e ∷ [])).state
