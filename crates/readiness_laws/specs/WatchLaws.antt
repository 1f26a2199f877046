-- The entries of threads tell who is ready, and who runs: the statements that are the contracts of `entries_tell_who_is_ready` and
-- `entries_tell_who_runs`.
use Rattle.std.specs.Prelude.{◌≡◌, ◌↔◌, ⊤, ℕ, ◌^◌, ◌<◌, Bool, false, Option, None, Some}
use Rattle.std.specs.Option.{option_map}
use Rattle.std.specs.FinMap.{get, len}
use Rattle.abi_types.specs.declared.constants.Constants.{Constants}
use Rattle.abi_types.specs.declared.thread.Thread.{Thread}
use Rattle.kernel_model.specs.Deadlines.{least_deadline}
use Rattle.kernel_model.specs.State.{State, thread_of}
use Rattle.kernel_model.specs.Valid.{IsValid}
use Rattle.kernel_model.specs.Waits.{HasDeadline, HasDeadlines, IsParked}
use Rattle.kernel_model.specs.Wakes.{is_ready, AllParked, HasThread, IsStalled, MayJump, NoneReady}
use Rattle.kernel_parts.specs.Touched.{IsTouched}
use Rattle.kernel_parts.specs.Keys.{key}
use Rattle.wait_set.specs.declared.waiting.Waiting.{Waiting}
use Rattle.wait_set.specs.Next.{IsNext}
use Rattle.wait_set.specs.Waits as waits
use Rattle.wait_set.specs.Waits.{AreTested, IsExact, WaitMap, flag, is_awaited, is_up, mark_of}
use Rattle.readiness_laws.specs.NextReady.{IsNextReady, ThreadName, thread_at}
use Rattle.readiness_laws.specs.Watched.{IsWatched}
use Rattle.readiness_laws.specs.WatchedChanges.{IsChanged}

-- none stands everywhere, since memory ran out as it began to wait
abbrev pub NoneSpread : WaitMap → Type 0
NoneSpread W = (k : ℕ) (w : Waiting) → get W k ≡ Some w → w.everywhere ≡ false

-- whether the thread is ready whose entry has this number
abbrev pub TellsReady : Constants → State → WaitMap → (ℕ → Bool) → Type 0
TellsReady constants S W ready = (p t : ℕ) (w : Waiting) → t < 2 ^ 32 → get W (key p t) ≡ Some w → ready (key p t) ≡ is_ready constants S p t

-- the number of the entry of the thread that is named, if one is
abbrev pub number_of : Option ThreadName → Option ℕ
number_of None = None
number_of (Some thread) = Some (key thread.0 thread.1)

abbrev pub IsSmall : Option ThreadName → Type 0
IsSmall None = ⊤
IsSmall (Some thread) = thread.1 < 2 ^ 32

-- Entries that go with a state go with the next one: after a change that leaves to be tested whomever it concerns, after something has ended, and once some
-- of those that are left were tested. Each that isn't left is marked by whether its thread is ready, and the next one of a thread that waits and is ready is
-- that of the next ready thread. And where none stands everywhere the first moment at which somebody stands is the least deadline.
pub record EntriesTell : Type 0 where
  pub changed : (S T : State) (V W : WaitMap) → IsWatched S V → IsChanged S T V W → IsWatched T W
  pub touched : (S T : State) (V W : WaitMap) → IsWatched S V → IsTouched S T V W → IsWatched T W
  pub tested : (constants : Constants) (S : State) (V W : WaitMap) → IsWatched S V → HasDeadlines constants S → (ready : ℕ → Bool) → TellsReady constants S V ready
      → AreTested ready V W → IsWatched S W
  pub exact : (constants : Constants) (S : State) (W : WaitMap) → IsWatched S W → HasDeadlines constants S → (ready : ℕ → Bool) → TellsReady constants S W ready
      → IsExact ready W
  pub next : (constants : Constants) (S : State) (W : WaitMap) → IsWatched S W → (ready : ℕ → Bool) → TellsReady constants S W ready
      → (after : Option ThreadName) → IsSmall after → (result : Option ℕ) → IsNext (λ k. is_up ready (get W k) k) (number_of after) result
      → IsNextReady constants S after (option_map thread_at result)
  pub mark : (constants : Constants) (S : State) (W : WaitMap) → IsWatched S W → (p t : ℕ) → t < 2 ^ 32 → HasDeadline constants (thread_of S p t) → (b : Bool)
      → mark_of (get W (key p t)) ≡ Some b → is_ready constants S p t ≡ b
  pub least : (constants : Constants) (S : State) (W : WaitMap) → IsWatched S W → HasDeadlines constants S → NoneSpread W
      → (result : Option ℕ) → IsNext (is_awaited W) None result → least_deadline S ≡ result

-- no entry is of a thread that runs
abbrev pub NoneRuns : WaitMap → Type 0
NoneRuns W = (k : ℕ) → flag waits.is_running (get W k) ≡ false

-- there is no entry
abbrev pub IsNobody : WaitMap → Type 0
IsNobody W = len W ≡ 0

-- Each thread waits exactly where no entry is of one that runs, and there is a thread exactly where there is an entry. So time may jump to the least deadline
-- exactly where no entry is of a thread that runs and no thread is ready; and where there is no deadline nothing happens any more exactly where
-- there is an entry beside.
pub record RunnersAreTold : Type 0 where
  pub waits : (S : State) (W : WaitMap) → IsWatched S W → NoneRuns W ↔ ((p t : ℕ) (thread : Thread) → HasThread S p t thread → IsParked thread)
  pub parked : (S : State) (W : WaitMap) → IsWatched S W → IsValid S → (NoneRuns W × (IsNobody W → ⊥)) ↔ AllParked S
  pub jumps : (S : State) (W : WaitMap) → IsWatched S W → IsValid S → (constants : Constants) (until : ℕ) → least_deadline S ≡ Some until
      → (NoneRuns W × NoneReady constants S) ↔ MayJump constants S
  pub stalls : (S : State) (W : WaitMap) → IsWatched S W → IsValid S → (constants : Constants) → least_deadline S ≡ None
      → (NoneRuns W × (IsNobody W → ⊥) × NoneReady constants S) ↔ IsStalled constants S
