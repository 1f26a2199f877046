-- The entries of threads that go with a state, by which is known who is ready of those that wait.
--     key p t      the number under which a thread has its entry (kernel_parts)
--     looked_at S      what waiting threads look at of a state
--     is_waiting, is_running, until_in      whether a thread waits, whether it runs, and until which moment it waits
--     noted spots      those of the spots at which an entry may stand
--     Covers S p t those      a list of spots has all of the thread's
--     IsEntry S p t w      the thread's entry is as it is to be: where it stands, and how it is marked
--     IsWatched S W      each thread has an entry, and each entry is so
use Rattle.std.specs.Prelude.{◌≡◌, ⊤, ℕ, ◌^◌, ◌<◌, Bool, true, false, List, [], ◌∷◌, Option, None, Some, IsSome, nat_eq}
use Rattle.std.specs.FinMap.{get}
use Rattle.std.specs.List.{AllByRecursion}
use Rattle.abi_types.specs.declared.constants.Constants.{Constants}
use Rattle.abi_types.specs.declared.thread.Thread.{Thread}
use Rattle.abi_types.specs.declared.thread.Thread.TheVariants.{Runnable, Waits}
use Rattle.kernel_model.specs.State.{State, no_state, thread_of}
use Rattle.kernel_model.specs.Waits.{HasDeadline, MayWait}
use Rattle.kernel_model.specs.Wakes.{is_ready}
use Rattle.kernel_parts.specs.Keys.{key}
use Rattle.wait_set.specs.declared.spot.Spot as wait
use Rattle.wait_set.specs.declared.spot.Spot.TheVariants.{Channel, Ended, Moment}
use Rattle.wait_set.specs.declared.waiting.Waiting.{Waiting}
use Rattle.wait_set.specs.Spots.{listed}
use Rattle.wait_set.specs.Waits.{WaitMap, lists, stands}
use Rattle.readiness_laws.specs.Spots.{Spot, on_channel, on_end, on_moment, spots}

-- What waiting threads look at: the time, descriptors, threads, how processes stand, opens and channels. What happens to the file tree and the standard
-- streams concerns none.
abbrev pub looked_at : State → State
looked_at S = record no_state {
  clock = S.clock;
  tables = S.tables;
  processes = S.processes;
  statuses = S.statuses;
  opens = S.opens;
  chans = S.chans;
}

-- whether there is such a thread, and it waits
abbrev pub is_waiting : Option Thread → Bool
is_waiting None = false
is_waiting (Some Runnable) = false
is_waiting (Some (Waits call since until stage)) = true

-- whether there is such a thread, and it runs
abbrev pub is_running : Option Thread → Bool
is_running None = false
is_running (Some Runnable) = true
is_running (Some (Waits call since until stage)) = false

-- until when the thread waits, if there is such a moment
abbrev pub until_in : Option Thread → Option ℕ
until_in None = None
until_in (Some Runnable) = None
until_in (Some (Waits call since until stage)) = until

-- whether it is this moment
abbrev pub is_moment : ℕ → Option ℕ → Bool
is_moment m None = false
is_moment m (Some until) = nat_eq m until

-- the entry stands at the spot, if that is a channel or the end of a process
abbrev pub StandsAt : Waiting → Spot → Type 0
StandsAt w (on_channel c) = stands (Channel c) w ≡ true
StandsAt w (on_end q) = stands (Ended q) w ≡ true
StandsAt w spot = ⊤

-- the spots as they are noted: channels, ends of processes and moments
abbrev pub noted_before : Spot → List wait.Spot → List wait.Spot
noted_before (on_channel c) rest = Channel c ∷ rest
noted_before (on_end q) rest = Ended q ∷ rest
noted_before (on_moment m) rest = Moment m ∷ rest
noted_before spot rest = rest

abbrev pub noted : List Spot → List wait.Spot
noted [] = []
noted (spot ∷ rest) = noted_before spot (noted rest)

-- The list has each channel, and the end of each process, at which the thread's call looks, and of moments that alone until which the thread waits.
pub record Covers (S : State) (p t : ℕ) (those : List wait.Spot) : Type 0 where
  pub all : (x : wait.Spot) → listed x (noted (spots S p t)) ≡ true → listed x those ≡ true
  pub moments : (m : ℕ) → listed (Moment m) those ≡ listed (Moment m) (noted (spots S p t))

-- The entry of the thread t of process p is as it is to be: there is such a thread, and the entry tells whether it runs. It stands at each channel and at the
-- end of each process at which the thread's call looks, and in its list it has the moment until which the thread waits, and no other, unless it stands
-- everywhere. And unless it is left to be tested it is marked by whether the thread is ready, whatever the run's constants are by which the thread waits
-- until its call's deadline. One that runs waits until no moment, and isn't ready.
pub record IsEntry (S : State) (p t : ℕ) (w : Waiting) : Type 0 where
  pub moments : w.everywhere ≡ false → (m : ℕ) → lists (Moment m) w ≡ is_moment m (until_in (thread_of S p t))
  pub places : AllByRecursion (StandsAt w) (spots S p t)
  pub marks : (constants : Constants) → w.left ≡ false → HasDeadline constants (thread_of S p t) → w.ready ≡ is_ready constants S p t
  pub there : IsSome (thread_of S p t)
  pub runs : w.runs ≡ is_running (thread_of S p t)

-- where there is no entry there is no thread, and where there is one there is its thread
abbrev pub HasEntry : State → ℕ → ℕ → Option Waiting → Type 0
HasEntry S p t None = thread_of S p t ≡ None
HasEntry S p t (Some w) = IsEntry S p t w

-- Each thread has its entry, and each that waits does so in a call in which it may. Numbers of threads are below 2^32, so that no two share an entry.
pub record AreEntries (S : State) (W : WaitMap) : Type 0 where
  pub may : (p t : ℕ) → MayWait (thread_of S p t)
  pub small : (p t : ℕ) → IsSome (thread_of S p t) → t < 2 ^ 32
  pub entries : (p t : ℕ) → t < 2 ^ 32 → HasEntry S p t (get W (key p t))

-- the same, said of what waiting threads look at alone
abbrev pub IsWatched : State → WaitMap → Type 0
IsWatched S W = AreEntries (looked_at S) W
