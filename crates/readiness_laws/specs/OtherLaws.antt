-- Threads that an entry of a history leaves as they are: the statements that are the contract of `others_look_elsewhere`.
use Rattle.std.specs.Prelude.{◌≡◌, ◌≢◌, ◌⊎◌, ℕ, Bool, false, Some, IsSome}
use Rattle.std.specs.List.{list_any}
use Rattle.std.specs.FinMap.{get}
use Rattle.abi_types.specs.declared.call.Call.{Call}
use Rattle.abi_types.specs.declared.constants.Constants.{Constants}
use Rattle.abi_types.specs.declared.reply.Answer.{Answer}
use Rattle.abi_types.specs.declared.status.Status.{Status}
use Rattle.abi_types.specs.declared.status.Status.TheVariants.{Live}
use Rattle.abi_types.specs.declared.wake.WakeIn.{WakeIn}
use Rattle.abi_types.specs.declared.who.Who.{Who}
use Rattle.kernel_model.specs.State.{State, thread_of}
use Rattle.kernel_model.specs.Step.{end_state, IsStep}
use Rattle.kernel_model.specs.Threads.{ends_others, moves_waiters}
use Rattle.kernel_model.specs.Valid.{IsValid}
use Rattle.kernel_model.specs.Waits.{HasDeadlines, WaitsIn}
use Rattle.kernel_model.specs.Wakes.{IsWake}
use Rattle.readiness_laws.specs.Changes.{end_changes, step_changes, wake_changes}
use Rattle.readiness_laws.specs.MarkLaws.{LeavesReady, besides_opens}
use Rattle.readiness_laws.specs.Spots.{Spot, waiting_spots}

-- the thread is another one than the caller
abbrev pub IsOther : Who → ℕ → ℕ → Type 0
IsOther who p t = (p ≢ who.pid) ⊎ (t ≢ who.tid)

-- whether something is changed for which the thread waits, be it the moment until which it does
abbrev pub awaits_changed : (Spot → Bool) → State → ℕ → ℕ → Bool
awaits_changed changes S p t = list_any (besides_opens changes) (waiting_spots S p (thread_of S p t))

-- The thread is there, its process lives on, and nothing that it waits for is among what is changed.
pub record IsElsewhere (changes : Spot → Bool) (S T : State) (p t : ℕ) : Type 0 where
  pub there : IsSome (thread_of S p t)
  pub lives : get T.statuses p ≡ Some Live
  pub apart : awaits_changed changes S p t ≡ false

-- A step of a valid state that gives no lock to threads, signals none and doesn't end the others leaves each other thread that is elsewhere as ready as it
-- was and where it stood; so does a wake, and the end of another process from outside. What a process has of its own is no spot by which
-- its other threads would have to be looked at.
pub record OthersLookElsewhere : Type 0 where
  pub steps : (constants : Constants) (S : State) (who : Who) (call : Call) (given : Answer) (T : State) → IsStep constants S who call given T → IsValid S
      → HasDeadlines constants S → moves_waiters call given ≡ false → ends_others call given ≡ false
      → (p t : ℕ) → IsOther who p t → IsElsewhere (step_changes constants S who call) S T p t → LeavesReady constants S T p t
  pub wakes : (constants : Constants) (S : State) (who : Who) (call : Call) (given : WakeIn) (answered : Answer) (T : State)
      → IsWake constants S who call given answered T → IsValid S → HasDeadlines constants S → WaitsIn S who call
      → (p t : ℕ) → IsOther who p t → IsElsewhere (wake_changes constants S who call given) S T p t → LeavesReady constants S T p t
  pub ends : (constants : Constants) (S : State) (p : ℕ) (status : Status) → status ≢ Live → IsSome (get S.statuses p) → IsValid S
      → HasDeadlines constants S
      → (q t : ℕ) → q ≢ p → IsElsewhere (end_changes S p status) S (end_state S p status) q t → LeavesReady constants S (end_state S p status) q t
