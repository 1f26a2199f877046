-- Where threads stand after the entries of a history, how one begins to wait, and how one is told: the statements that are the contract of `places_are_kept`.
use Rattle.std.specs.Prelude.{◌≡◌, ◌≢◌, ℕ, ◌+◌, true, false, List, [], Option, None, Some, IsSome}
use Rattle.std.specs.FinMap.{get}
use Rattle.std.specs.List.{AllByRecursion}
use Rattle.abi_types.specs.declared.call.Call.{Call}
use Rattle.abi_types.specs.declared.constants.Constants.{Constants}
use Rattle.abi_types.specs.declared.descriptor.Descriptor.{Descriptor}
use Rattle.abi_types.specs.declared.reply.Answer.{Answer}
use Rattle.abi_types.specs.declared.reply.Answer.TheVariants as answer
use Rattle.abi_types.specs.declared.reply.WordWrites.{WordWrites}
use Rattle.abi_types.specs.declared.status.Status.{Status}
use Rattle.abi_types.specs.declared.status.Status.TheVariants.{Live}
use Rattle.abi_types.specs.declared.thread.Thread.{Thread}
use Rattle.abi_types.specs.declared.thread.Thread.TheVariants.{Runnable, Waits}
use Rattle.abi_types.specs.declared.wake.WakeIn.{WakeIn}
use Rattle.abi_types.specs.declared.who.Who.{Who}
use Rattle.kernel_model.specs.Calls.{meaning_of}
use Rattle.kernel_model.specs.Families.Locks.{called, given, sleeps_at, waits_for}
use Rattle.kernel_model.specs.State.{State, Table, thread_of}
use Rattle.kernel_model.specs.Step.{end_state, IsStep}
use Rattle.kernel_model.specs.Valid.{IsValid}
use Rattle.kernel_model.specs.Waits.{waiting}
use Rattle.kernel_model.specs.Wakes.{is_ready, IsWake}
use Rattle.readiness_laws.specs.Spots.{Look, looks_of, spots}

-- what stands under the number
abbrev pub row_in : Option Table → ℕ → Option Descriptor
row_in None fd = None
row_in (Some table) fd = get table fd

-- at what the call looks in which the thread waits
abbrev pub looks_in : Option Thread → List Look
looks_in None = []
looks_in (Some Runnable) = []
looks_in (Some (Waits call since until stage)) = looks_of call

-- The thread does the same in both states, and the numbers on which it waits are of the same descriptors.
pub record HasStayed (S T : State) (p t : ℕ) : Type 0 where
  pub thread : thread_of S p t ≡ thread_of T p t
  pub rows : AllByRecursion (λ (look : Look). row_in (get S.tables p) look.fd ≡ row_in (get T.tables p) look.fd) (looks_in (thread_of S p t))

-- A step, a wake and the end of a process from outside leave each thread of a valid state where it stood that does what it did and on whose numbers its process
-- has the descriptors that it had: nothing that becomes of opens, channels, processes or other numbers moves one.
pub record PlacesAreKept : Type 0 where
  pub steps : (constants : Constants) (S : State) (who : Who) (call : Call) (given : Answer) (T : State) → IsStep constants S who call given T → IsValid S
      → (p t : ℕ) → HasStayed S T p t → spots T p t ≡ spots S p t
  pub wakes : (constants : Constants) (S : State) (who : Who) (call : Call) (given : WakeIn) (answered : Answer) (T : State)
      → IsWake constants S who call given answered T → IsValid S → (p t : ℕ) → HasStayed S T p t → spots T p t ≡ spots S p t
  pub ends : (S : State) (p : ℕ) (status : Status) → IsSome (get S.statuses p) → status ≢ Live → IsValid S
      → (q t : ℕ) → HasStayed S (end_state S p status) q t → spots (end_state S p status) q t ≡ spots S q t

-- A live process's thread that begins to wait in a call isn't ready then, unless it waits for a lock or at a condition variable. Whatever it waits for, it does
-- until its call's deadline from then on.
pub record BeginsUnready : Type 0 where
  pub waits : (constants : Constants) (S : State) (who : Who) (call : Call) (writes : WordWrites) (T : State)
      → IsStep constants S who call (answer.Parked writes) T → IsValid S → get S.statuses who.pid ≡ Some Live → IsSome (thread_of S who.pid who.tid)
      → thread_of T who.pid who.tid ≡ Some (waiting constants call who (S.clock + 1000))
  pub unready : (constants : Constants) (S : State) (who : Who) (call : Call) (writes : WordWrites) (T : State)
      → IsStep constants S who call (answer.Parked writes) T → IsValid S → get S.statuses who.pid ≡ Some Live → IsSome (thread_of S who.pid who.tid)
      → (meaning_of call).by_stage ≡ false → is_ready constants T who.pid who.tid ≡ false

-- A thread that waits for a lock and is given it is ready then, and so is one that waits at a condition variable and is signalled. It stands where it stood.
pub record ToldAreReady : Type 0 where
  pub given : (constants : Constants) (S T : State) (p t lock : ℕ) (thread : Thread) → thread_of S p t ≡ Some thread → IsSome (waits_for lock thread)
      → thread_of T p t ≡ Some (given thread) → (is_ready constants T p t ≡ true) × (spots T p t ≡ spots S p t)
  pub signalled : (constants : Constants) (S T : State) (p t condvar : ℕ) (thread : Thread) → thread_of S p t ≡ Some thread
      → IsSome (sleeps_at condvar thread) → thread_of T p t ≡ Some (called thread) → (is_ready constants T p t ≡ true) × (spots T p t ≡ spots S p t)
