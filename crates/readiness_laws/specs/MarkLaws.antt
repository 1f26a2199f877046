-- Threads that a change leaves as ready as they were, and marks of who is: the statements that are the contract of `others_stay_ready`.
use Rattle.std.specs.Prelude.{◌≡◌, ◌≢◌, ⊤, ℕ, ◌≤◌, ◌||◌, Bool, true, false, Option, Some, IsSome}
use Rattle.std.specs.List.{AllByRecursion, list_any}
use Rattle.abi_types.specs.declared.call.Call.{Call}
use Rattle.abi_types.specs.declared.constants.Constants.{Constants}
use Rattle.abi_types.specs.declared.reply.Answer.{Answer}
use Rattle.abi_types.specs.declared.status.Status.{Status}
use Rattle.abi_types.specs.declared.status.Status.TheVariants.{Live}
use Rattle.abi_types.specs.declared.wake.WakeIn.{WakeIn}
use Rattle.abi_types.specs.declared.who.Who.{Who}
use Rattle.std.specs.FinMap.{get}
use Rattle.kernel_model.specs.Deadlines.{idle_state}
use Rattle.kernel_model.specs.OpenLaws.{OpensStay}
use Rattle.kernel_model.specs.Step.{end_state, IsStep}
use Rattle.abi_types.specs.declared.thread.Stage.{Stage}
use Rattle.abi_types.specs.declared.thread.Thread.{Thread}
use Rattle.abi_types.specs.declared.thread.Thread.TheVariants.{Waits}
use Rattle.kernel_model.specs.State.{State, thread_of}
use Rattle.kernel_model.specs.Valid.{IsValid}
use Rattle.kernel_model.specs.WaitLaws.{at_moment}
use Rattle.kernel_model.specs.Waits.{HasDeadlines, IsParked}
use Rattle.kernel_model.specs.Wakes.{is_ready, HasThread, IsWake, NoneReady}
use Rattle.readiness_laws.specs.Changes.{ChangesOnly, end_changes, moments, step_changes, wake_changes}
use Rattle.readiness_laws.specs.Spots.{Spot, on_open, spots}

-- One state goes over into the other by a change of these spots: both are valid, and each open that is there in both is of the same in both.
pub record GoesOver (constants : Constants) (changes : Spot → Bool) (S T : State) : Type 0 where
  pub only : ChangesOnly changes S T
  pub before : IsValid S
  pub after : IsValid T
  pub opens : OpensStay S T
  pub deadlines : HasDeadlines constants S

-- So does each entry of a history.
pub record EntriesGoOver : Type 0 where
  pub steps : (constants : Constants) (S : State) (who : Who) (call : Call) (given : Answer) (T : State) → IsStep constants S who call given T → IsValid S
      → HasDeadlines constants S → GoesOver constants (step_changes constants S who call) S T
  pub wakes : (constants : Constants) (S : State) (who : Who) (call : Call) (given : WakeIn) (answered : Answer) (T : State)
      → IsWake constants S who call given answered T → IsValid S → HasDeadlines constants S → GoesOver constants (wake_changes constants S who call given) S T
  pub ends : (constants : Constants) (S : State) (p : ℕ) (status : Status) → IsSome (get S.statuses p) → status ≢ Live → IsValid S
      → HasDeadlines constants S
      → GoesOver constants (end_changes S p status) S (end_state S p status)
  pub jumps : (constants : Constants) (S : State) → IsValid S → HasDeadlines constants S
      → GoesOver constants (moments S.clock (idle_state S).clock) S (idle_state S)

-- the change, but for what opens are of
abbrev pub besides_opens : (Spot → Bool) → Spot → Bool
besides_opens changes (on_open o) = false
besides_opens changes spot = changes spot

-- Whether the thread stands at a spot that is changed. What opens are of doesn't count: none that its process names becomes another's or ends, as long as the
-- process has the same descriptors.
abbrev pub stands_at : (Spot → Bool) → State → ℕ → ℕ → Bool
stands_at changes S p t = list_any (besides_opens changes) (spots S p t)

-- A thread that stands at no spot that is changed is as ready after the change as before, and stands at the same spots.
pub record LeavesReady (constants : Constants) (S T : State) (p t : ℕ) : Type 0 where
  pub ready : is_ready constants S p t ≡ is_ready constants T p t
  pub spots : spots T p t ≡ spots S p t

abbrev pub OthersAreAsReady : Type 0
OthersAreAsReady =
    (constants : Constants) (changes : Spot → Bool) (S T : State) (p t : ℕ) → GoesOver constants changes S T → stands_at changes S p t ≡ false
    → LeavesReady constants S T p t

-- ---- marks

-- Each thread that has a mark, and isn't left to be looked at, is marked as ready exactly where it is.
abbrev pub IsExactBut : Constants → State → (ℕ → ℕ → Bool) → (ℕ → ℕ → Option Bool) → Type 0
IsExactBut constants S left marks = (p t : ℕ) (mark : Bool) → marks p t ≡ Some mark → left p t ≡ false → mark ≡ is_ready constants S p t

-- A change leaves marks exact but for those that were left before and those that stand at a changed spot, in the state before the change.
abbrev pub MarksGoOn : Type 0
MarksGoOn =
    (constants : Constants) (changes : Spot → Bool) (S T : State) (left : ℕ → ℕ → Bool) (marks : ℕ → ℕ → Option Bool) → GoesOver constants changes S T
    → IsExactBut constants S left marks → IsExactBut constants T (λ p t. left p t || stands_at changes S p t) marks

-- Who stands in the queue of a spot: each thread that has a mark does at each spot where it stands, and perhaps at others. What an open is of needs no queue.
abbrev pub IsQueued : (Spot → ℕ → ℕ → Bool) → ℕ → ℕ → Spot → Type 0
IsQueued queues p t (on_open o) = ⊤
IsQueued queues p t spot = queues spot p t ≡ true

abbrev pub StandInQueues : State → (Spot → ℕ → ℕ → Bool) → (ℕ → ℕ → Option Bool) → Type 0
StandInQueues S queues marks = (p t : ℕ) → IsSome (marks p t) → AllByRecursion (IsQueued queues p t) (spots S p t)

-- So all that is left after a change are those who stand in the queue of a changed spot.
abbrev pub QueuesCover : Type 0
QueuesCover =
    (constants : Constants) (changes : Spot → Bool) (S T : State) (queues : Spot → ℕ → ℕ → Bool) (left : ℕ → ℕ → Bool) (marks : ℕ → ℕ → Option Bool)
    → GoesOver constants changes S T → IsExactBut constants S left marks → StandInQueues S queues marks
    → ((spot : Spot) (p t : ℕ) → besides_opens changes spot ≡ true → queues spot p t ≡ true → left p t ≡ true) → IsExactBut constants T left marks

-- Each thread that waits has a mark.
abbrev pub HaveMarks : State → (ℕ → ℕ → Option Bool) → Type 0
HaveMarks S marks = (p t : ℕ) (thread : Thread) → HasThread S p t thread → IsParked thread → IsSome (marks p t)

-- Where marks are exact of all who wait, one that is marked is ready, and nobody is ready where none is marked.
pub record MarksTell : Type 0 where
  pub marked : (constants : Constants) (S : State) (marks : ℕ → ℕ → Option Bool) (p t : ℕ) → IsExactBut constants S (λ p t. false) marks
      → marks p t ≡ Some true → is_ready constants S p t ≡ true
  pub none : (constants : Constants) (S : State) (marks : ℕ → ℕ → Option Bool) → IsExactBut constants S (λ p t. false) marks → HaveMarks S marks
      → ((p t : ℕ) → marks p t ≢ Some true) → NoneReady constants S

-- ---- time

-- A thread whose moment has come stays ready, however time goes on.
abbrev pub DueStaysReady : Type 0
DueStaysReady =
    (constants : Constants) (S : State) (p t later : ℕ) (call : Call) (since until : ℕ) (stage : Stage) → IsValid S → HasDeadlines constants S
    → thread_of S p t ≡ Some (Waits call since (Some until) stage) → until ≤ S.clock → S.clock ≤ later
    → (is_ready constants S p t ≡ true) × (is_ready constants (at_moment S later) p t ≡ true)
