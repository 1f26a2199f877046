-- What becomes of the entries of waiting threads where opens, channels, processes or threads end.
use Rattle.std.specs.Prelude.{◌≡◌, ℕ, ◌^◌, ◌<◌, true, false, None, Some, IsSome}
use Rattle.std.specs.FinMap.{get}
use Rattle.abi_types.specs.declared.descriptor.Descriptor.{Descriptor}
use Rattle.abi_types.specs.declared.thread.Thread.{Thread}
use Rattle.kernel_model.specs.State.{State, Table, thread_of}
pub use Rattle.kernel_parts.specs.Keys.{key}
use Rattle.wait_set.specs.declared.spot.Spot.TheVariants.{Channel, Ended}
use Rattle.wait_set.specs.declared.waiting.Waiting.{Waiting}
use Rattle.wait_set.specs.Waits.{WaitMap, stands}

-- The second is what has become of the first entry: it stands at the spots of its list still, and runs if it ran, but may stand everywhere or be left to be
-- tested since. Where it isn't left it is the same.
pub record IsKept (v w : Waiting) : Type 0 where
  pub spots : w.spots ≡ v.spots
  pub same : w.left ≡ false → w ≡ v
  pub everywhere : w.everywhere ≡ false → v.everywhere ≡ false
  pub runs : w.runs ≡ v.runs

-- The thread does in both states the same, and its process has the same descriptors.
pub record DoesTheSame (S T : State) (p t : ℕ) : Type 0 where
  pub thread : thread_of T p t ≡ thread_of S p t
  pub table : get T.tables p ≡ get S.tables p

-- From the first state to the second only something has ended; V are the entries before, and W those after it. No entry has come, and where one has gone its
-- thread has. Each thread that has one does what it did, and its process has the descriptors that it had. Whoever isn't left to be tested stands at no
-- channel that has changed, and at the end of no process. The descriptors of tables were there, of opens that are the same. No thread is new or does
-- something else, and no time has passed.
pub record IsTouched (S T : State) (V W : WaitMap) : Type 0 where
  pub kept : (k : ℕ) (w : Waiting) → get W k ≡ Some w → (v : Waiting) × (get V k ≡ Some v) × IsKept v w
  pub gone : (p t : ℕ) → t < 2 ^ 32 → get W (key p t) ≡ None → IsSome (get V (key p t)) → thread_of T p t ≡ None
  pub stay : (p t : ℕ) (w : Waiting) → t < 2 ^ 32 → get W (key p t) ≡ Some w → DoesTheSame S T p t
  pub channels : (k c : ℕ) (w : Waiting) → get W k ≡ Some w → w.left ≡ false → stands (Channel c) w ≡ true → get T.chans c ≡ get S.chans c
  pub ends : (k q : ℕ) (w : Waiting) → get W k ≡ Some w → w.left ≡ false → stands (Ended q) w ≡ true → get T.statuses q ≡ get S.statuses q
  pub rows : (p n : ℕ) (table : Table) (d : Descriptor) → get T.tables p ≡ Some table → get table n ≡ Some d
      → (get S.tables p ≡ Some table) × (get T.opens d.id ≡ get S.opens d.id)
  pub threads : (p t : ℕ) (thread : Thread) → thread_of T p t ≡ Some thread → thread_of S p t ≡ Some thread
  pub clock : T.clock ≡ S.clock

-- One after another they are so of the first state and the last.
abbrev pub IsTouchedFollows : Type 0
IsTouchedFollows = (S T U : State) (V W X : WaitMap) → IsTouched S T V W → IsTouched T U W X → IsTouched S U V X
