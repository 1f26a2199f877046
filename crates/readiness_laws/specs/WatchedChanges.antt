-- Changes that leave the entries of waiting threads such that they go with the state.
--     ThreadChange      what a thread does before and after, and its entry after
--     RowsStay      the numbers that a call names are of the same descriptors
--     Changes, IsChanged      a change that leaves to be tested whomever it concerns
--     AreKept V W      each entry is there before and after, and what has become of it is that it is left to be tested, or stands everywhere
--     AreLeftAt x W      each thread that stands at the spot is left to be tested
--     AreIdle S p      no thread of the process waits
--     AreSpread p W      each thread of the process that has an entry stands everywhere, and is left to be tested
use Rattle.std.specs.Prelude.{◌≡◌, ⊤, ℕ, ◌^◌, ◌<◌, ◌&&◌, ◌||◌, true, false, Option, None, Some, IsSome}
use Rattle.std.specs.FinMap.{get}
use Rattle.abi_types.specs.declared.call.Call.{Call}
use Rattle.abi_types.specs.declared.descriptor.Descriptor.{Descriptor}
use Rattle.abi_types.specs.declared.thread.Stage.{Stage}
use Rattle.abi_types.specs.declared.thread.Thread.{Thread}
use Rattle.abi_types.specs.declared.thread.Thread.TheVariants.{Runnable, Waits}
use Rattle.maps.specs.Closure.{member}
use Rattle.kernel_model.specs.Calls.{named}
use Rattle.kernel_model.specs.Deadlines.{is_due}
use Rattle.kernel_model.specs.Release.{is_of_process, is_reader, is_writer}
use Rattle.kernel_model.specs.State.{State, Table, thread_of}
use Rattle.kernel_model.specs.Waits.{may_wait, MayWait}
use Rattle.kernel_parts.specs.Touched.{IsKept}
use Rattle.kernel_parts.specs.Keys.{key}
use Rattle.wait_set.specs.declared.spot.Spot.{Spot}
use Rattle.wait_set.specs.declared.spot.Spot.TheVariants.{Channel, Ended, Moment}
use Rattle.wait_set.specs.declared.waiting.Waiting.{Waiting}
use Rattle.wait_set.specs.Waits.{WaitMap, stands}
use Rattle.readiness_laws.specs.PlaceLaws.{row_in}
use Rattle.readiness_laws.specs.Spots.{bare, never_waits}
use Rattle.readiness_laws.specs.Watched.{is_waiting, looked_at}

-- the entry is left to be tested, if there is one
abbrev pub IsLeft : Option Waiting → Type 0
IsLeft None = ⊤
IsLeft (Some w) = w.left ≡ true

-- What becomes of a thread with this entry: it does what it did; it waits in the same call and until the same moment, but its wait has come further, as that of
-- one that is given a lock or signalled, and it is left to be tested; it is no more, and has no entry; or it has an entry, didn't wait
-- before, and runs after.
pub data ThreadChange (before after : Option Thread) (entry : Option Waiting) : Type 0 where
  stays : after ≡ before → ThreadChange before after entry
  told : (call : Call) (since later : ℕ) (until : Option ℕ) (was now : Stage) → before ≡ Some (Waits call since until was)
      → after ≡ Some (Waits call later until now) → IsLeft entry → ThreadChange before after entry
  ends : after ≡ None → entry ≡ None → ThreadChange before after entry
  idles : is_waiting before ≡ false → after ≡ Some Runnable → IsSome entry → ThreadChange before after entry

-- The table is the same before and after, or the same descriptors stand in it under the numbers that the call names.
pub data RowsStay (before after : Option Table) (call : Call) : Type 0 where
  all_stay : after ≡ before → RowsStay before after call
  named_stay : (a b : Table) → before ≡ Some a → after ≡ Some b → ((fd : ℕ) → (may_wait call && member fd (named call)) ≡ true → get b fd ≡ get a fd)
      → RowsStay before after call

-- V are the entries in the first state, and W those in the second. No entry has come, and where one has gone its thread is no more. For a waiting thread, unless
-- its entry stands everywhere and is left to be tested, the numbers that its call names are of the descriptors that they were of. What numbers named
-- before, and name still, is of the same, but its offset may be another, and its flags where those who stand at a channel of it are left. Who stands
-- at a channel or at the end of a process that some number led to, and that has changed, is left, and so is who stands at a moment that has come since.
pub record Changes (S T : State) (V W : WaitMap) : Type 0 where
  pub may : (p t : ℕ) → MayWait (thread_of T p t)
  pub small : (p t : ℕ) → IsSome (thread_of T p t) → t < 2 ^ 32
  pub kept : (k : ℕ) (w : Waiting) → get W k ≡ Some w → (v : Waiting) × (get V k ≡ Some v) × IsKept v w
  pub gone : (p t : ℕ) → t < 2 ^ 32 → get W (key p t) ≡ None → IsSome (get V (key p t)) → thread_of T p t ≡ None
  pub threads : (p t : ℕ) → t < 2 ^ 32 → ThreadChange (thread_of S p t) (thread_of T p t) (get W (key p t))
  pub rows : (p t : ℕ) (w : Waiting) (call : Call) (since : ℕ) (until : Option ℕ) (stage : Stage) → t < 2 ^ 32 → get W (key p t) ≡ Some w
      → (w.everywhere && w.left) ≡ false → thread_of S p t ≡ Some (Waits call since until stage) → RowsStay (get S.tables p) (get T.tables p) call
  pub opens : (p n : ℕ) (d : Descriptor) → row_in (get S.tables p) n ≡ Some d → row_in (get T.tables p) n ≡ Some d
      → bare (get T.opens d.id) ≡ bare (get S.opens d.id)
  pub flags : (k c p n : ℕ) (w : Waiting) (d : Descriptor) → get W k ≡ Some w → w.left ≡ false → stands (Channel c) w ≡ true
      → row_in (get S.tables p) n ≡ Some d → row_in (get T.tables p) n ≡ Some d
      → (is_reader c (get S.opens d.id) || is_writer c (get S.opens d.id)) ≡ true → never_waits (get T.opens d.id) ≡ never_waits (get S.opens d.id)
  pub channels : (k c p n : ℕ) (w : Waiting) (d : Descriptor) → get W k ≡ Some w → w.left ≡ false → stands (Channel c) w ≡ true
      → row_in (get S.tables p) n ≡ Some d → row_in (get T.tables p) n ≡ Some d
      → (is_reader c (get S.opens d.id) || is_writer c (get S.opens d.id)) ≡ true → get T.chans c ≡ get S.chans c
  pub ends : (k q p n : ℕ) (w : Waiting) (d : Descriptor) → get W k ≡ Some w → w.left ≡ false → stands (Ended q) w ≡ true
      → row_in (get S.tables p) n ≡ Some d → row_in (get T.tables p) n ≡ Some d → is_of_process q (get S.opens d.id) ≡ true
      → get T.statuses q ≡ get S.statuses q
  pub moments : (k m : ℕ) (w : Waiting) → get W k ≡ Some w → w.left ≡ false → stands (Moment m) w ≡ true → is_due T.clock (Some m) ≡ is_due S.clock (Some m)

-- the same, said of what waiting threads look at alone
abbrev pub IsChanged : State → State → WaitMap → WaitMap → Type 0
IsChanged S T V W = Changes (looked_at S) (looked_at T) V W

-- ---- what is done to entries

abbrev pub BothKept : Option Waiting → Option Waiting → Type 0
BothKept None None = ⊤
BothKept None (Some w) = ⊥
BothKept (Some v) None = ⊥
BothKept (Some v) (Some w) = IsKept v w

pub record AreKept (V W : WaitMap) : Type 0 where
  pub each : (k : ℕ) → BothKept (get V k) (get W k)

pub record AreLeftAt (x : Spot) (W : WaitMap) : Type 0 where
  pub left : (k : ℕ) (w : Waiting) → get W k ≡ Some w → stands x w ≡ true → w.left ≡ true

pub record AreSpread (p : ℕ) (W : WaitMap) : Type 0 where
  pub spread : (t : ℕ) (w : Waiting) → t < 2 ^ 32 → get W (key p t) ≡ Some w → (w.everywhere && w.left) ≡ true

abbrev pub AreIdle : State → ℕ → Type 0
AreIdle S p = (t : ℕ) → is_waiting (thread_of S p t) ≡ false
