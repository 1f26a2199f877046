-- What entries leave of the processes that did not do them, and what each process of a legal history has: the statements that are the
-- contracts of functions of src/laws.rt.
use Rattle.std.specs.Prelude.{◌≡◌, ◌≢◌, ℕ, ◌^◌, ◌<◌, false, List, [], ◌∷◌, ◌++◌, length, Contains, None, Some, IsSome}
use Rattle.std.specs.FinMap.{get}
use Rattle.abi_types.specs.declared.thread.Thread.TheVariants.{Runnable}
use Rattle.abi_types.specs.declared.who.Who.{Who}
use Rattle.run_types.specs.declared.history.Act.{Act}
use Rattle.run_types.specs.declared.history.Entry.{Entry}
use Rattle.run_types.specs.declared.launch.Launch.{Launch}
use Rattle.call_codec.specs.Bounded.{IsBounded}
use Rattle.kernel_model.specs.State.{threads_of, thread_of}
use Rattle.run_model.specs.Legal.{Asks, Fits, Legal}
use Rattle.run_model.specs.Own.{is_own, own, born, Made, IsLiveIn, Same, IsLeft}
use Rattle.tree_model.specs.Grants.{MayBegin}
use Rattle.kernel_model.specs.Valid.{IsValid}
use Rattle.run_model.specs.World.{World, child_guest, guest_of, turned, apply, world}

-- ---- other processes

-- An entry makes a process that did not do it, or ends it, or leaves it as it was.
abbrev pub EntryLeavesOthers : Type 0
EntryLeavesOthers = (w : World) (e : Entry) (q : ℕ) → IsValid w.state → Fits w e → is_own q e ≡ false → IsLeft w (apply w e) e.act q

-- A process that an entry makes was not made before it, in a valid state, and is made after it.
abbrev pub BornIsNew : Type 0
BornIsNew = (w : World) (e : Entry) (q : ℕ) → IsValid w.state → Fits w e → Contains (born e.act) q → (Made w q → ⊥) × Made (apply w e) q

-- A process that an entry makes has the memory of the one that did it, after the entry's turns; the registers of the thread that forked, which goes
-- on as that does but for its results; and a sixteenth of the turns that were left.
abbrev pub BornHasParents : Type 0
BornHasParents =
    (w : World) (e : Entry) (q : ℕ) → IsValid w.state → Fits w e → Contains (born e.act) q
    → guest_of (apply w e) q ≡ child_guest (guest_of (turned w e.pid e.turns) e.pid) e.tid

-- A process that is live and has one thread, which runs.
pub record HasOneThread (w : World) (p t : ℕ) : Type 0 where
  pub live : IsLiveIn w p
  pub runs : thread_of w.state p t ≡ Some Runnable
  pub alone : (u : ℕ) → u ≢ t → thread_of w.state p u ≡ None

-- A process that an entry makes is live after it, in a valid state, and has one thread, of the number that the thread has which forked.
abbrev pub ChildHasThread : Type 0
ChildHasThread = (w : World) (e : Entry) (q : ℕ) → IsValid w.state → Fits w e → Contains (born e.act) q → HasOneThread (apply w e) q e.tid

-- An entry leaves a process that did not do it, that was made before it and that is live after it as it was: its memory, registers and
-- turns, its descriptors, its threads and what else is its own, and its status.
abbrev pub OthersStay : Type 0
OthersStay = (w : World) (e : Entry) (q : ℕ) → IsValid w.state → Fits w e → is_own q e ≡ false → Made w q → IsLiveIn (apply w e) q → Same (apply w e) w q

-- A process that was made in a legal history is so in each longer one.
abbrev pub MadeLater : Type 0
MadeLater =
    (launch : Launch) (front rest : List Entry) (p : ℕ) → Legal launch (front ++ rest) → Made (world launch front) p
    → Made (world launch (front ++ rest)) p

-- A process that was not made in a legal history did none of its entries.
abbrev pub UnmadeDoesNothing : Type 0
UnmadeDoesNothing =
    (launch : Launch) (history : List Entry) (q : ℕ) → Legal launch history → (Made (world launch history) q → ⊥) → own q history ≡ []

-- Nor did one that the history's last entry makes.
abbrev pub ChildDidNothing : Type 0
ChildDidNothing =
    (launch : Launch) (history : List Entry) (e : Entry) (q : ℕ) → MayBegin launch.tree launch.grants → Legal launch (history ++ e ∷ [])
    → Contains (born e.act) q → own q (history ++ e ∷ []) ≡ []

-- A process that was made in the beginning of a legal history, that did none of the entries after it and that is live at the end is there
-- what it was after the beginning.
abbrev pub LeftAlone : Type 0
LeftAlone =
    (launch : Launch) (seen rest log : List Entry) (q : ℕ) → MayBegin launch.tree launch.grants → Legal launch log → log ≡ seen ++ rest → own q seen ≡ own q log
    → Made (world launch seen) q → IsLiveIn (world launch log) q → Same (world launch log) (world launch seen) q

-- What a process asks for by an act it asks for in each world in which it has the same memory, registers, turns and threads.
abbrev pub AsksStay : Type 0
AsksStay =
    (w v : World) (who : Who) (ts : List ℕ) (a : Act) → guest_of v who.pid ≡ guest_of w who.pid
    → threads_of v.state who.pid ≡ threads_of w.state who.pid → Asks w.state who (guest_of w who.pid) ts a
    → Asks v.state who (guest_of v who.pid) ts a

-- ---- each process

-- In the world of a legal history each thread of a live process has registers.
abbrev pub LegalHasRegisters : Type 0
LegalHasRegisters =
    (launch : Launch) (history : List Entry) (p t : ℕ) → MayBegin launch.tree launch.grants → Legal launch history → IsLiveIn (world launch history) p
    → IsSome (thread_of (world launch history).state p t) → IsSome (get (guest_of (world launch history) p).regs t)

-- ---- bounds

-- The clock of a legal history of a launch that can be started is below 2^63.
abbrev pub MomentIsEarly : Type 0
MomentIsEarly = (launch : Launch) (history : List Entry) → IsBounded launch → Legal launch history → (world launch history).state.clock < 2 ^ 63

-- Such a history has fewer than 2^63 entries.
abbrev pub LengthIsBounded : Type 0
LengthIsBounded = (launch : Launch) (history : List Entry) → IsBounded launch → Legal launch history → length history < 2 ^ 63
