-- To whom locks are handed, and who is signalled at condition variables, in other words than their definitions: the statements that are the
-- contracts of the first functions of src/lock_laws.rt.
--     who waits: Waiter, Sleeper, NoneWaits
--     a lock that is handed on: IsGiven, InTurn, WordTellsOwner
--     signals: IsCalled, SignalsInTurn
use Rattle.std.specs.Prelude.{◌≡◌, ◌↔◌, ◌⊎◌, ℕ, ◌+◌, ◌-◌, ◌^◌, ◌<◌, ◌≤◌, Bool, true, false, List, ◌∷◌, Option, Some, IsSome}
use Rattle.std.specs.Ordering.{nat_cmp}
use Rattle.std.specs.FinMap.{FinMap, get, len}
use Rattle.abi_structures.specs.declared.events.Subscription.{Subscription}
use Rattle.abi_structures.specs.declared.events.What.{What}
use Rattle.abi_structures.specs.declared.events.What.TheVariants.{Condvar, LockRdlock, LockWrlock}
use Rattle.abi_types.specs.declared.call.Call.{Call}
use Rattle.abi_types.specs.declared.call.Call.TheVariants.{Poll}
use Rattle.abi_types.specs.declared.thread.Stage.{Stage}
use Rattle.abi_types.specs.declared.thread.Stage.TheVariants.{Begun, Signalled, Queued, Granted}
use Rattle.abi_types.specs.declared.thread.Thread.{Thread}
use Rattle.abi_types.specs.declared.thread.Thread.TheVariants.{Runnable, Waits}
use Rattle.kernel_model.specs.Families.Locks.{handed, handed_word, signalled, signalled_word}
use Rattle.kernel_model.specs.State.{Threads}

-- ---- who waits

-- the thread waits in a poll that was made at this moment, and that begins with this subscription's; its wait has come so far
abbrev pub WaitsIn : What → ℕ → Stage → Thread → Type 0
WaitsIn what since stage thread =
    (first : Subscription) × (rest : List Subscription) × (until : Option ℕ) × (first.what ≡ what) × (thread ≡ Waits (Poll (first ∷ rest)) since until stage)

-- the thread has waited at a condition variable with this lock, and waits for the lock since this moment
abbrev pub WaitsAgain : ℕ → ℕ → Thread → Type 0
WaitsAgain lock moment thread =
    (condvar : ℕ) × (condvar_word : ℕ) × (lock_word : ℕ) × (condvar_scope : ℕ) × (lock_scope : ℕ) × (since : ℕ) × (late : Bool)
    × WaitsIn (Condvar condvar condvar_word lock lock_word condvar_scope lock_scope) since (Queued moment late) thread

-- The thread waits for the lock since this moment, to read (`true`) or to write: it has asked for it then, or it has left its condition variable
-- then.
abbrev pub WaitsFor : Bool → ℕ → ℕ → Thread → Type 0
WaitsFor true lock moment thread = (word : ℕ) × (scope : ℕ) × WaitsIn (LockRdlock lock word scope) moment Begun thread
WaitsFor false lock moment thread = ((word : ℕ) × (scope : ℕ) × WaitsIn (LockWrlock lock word scope) moment Begun thread) ⊎ WaitsAgain lock moment thread

-- it waits at the condition variable since this moment
abbrev pub SleepsAt : ℕ → ℕ → Thread → Type 0
SleepsAt condvar moment thread =
    (condvar_word : ℕ) × (lock : ℕ) × (lock_word : ℕ) × (condvar_scope : ℕ) × (lock_scope : ℕ)
    × WaitsIn (Condvar condvar condvar_word lock lock_word condvar_scope lock_scope) moment Begun thread

-- thread t of these does
abbrev pub Waiter : Bool → ℕ → Threads → ℕ → ℕ → Type 0
Waiter reads lock threads t moment = (thread : Thread) × (get threads t ≡ Some thread) × WaitsFor reads lock moment thread

abbrev pub Sleeper : ℕ → Threads → ℕ → ℕ → Type 0
Sleeper condvar threads t moment = (thread : Thread) × (get threads t ≡ Some thread) × SleepsAt condvar moment thread

-- no thread waits for the lock
abbrev pub NoneWaits : ℕ → Threads → Type 0
NoneWaits lock threads = (reads : Bool) (t moment : ℕ) → ¬ Waiter reads lock threads t moment

-- ---- a lock that is handed on

-- the thread, once its wait has come so far
abbrev pub has_come_to : Stage → Thread → Thread
has_come_to stage Runnable = Runnable
has_come_to stage (Waits call since until before) = Waits call since until stage

-- thread t waited so for the lock, and is given it: nothing else of its wait changes
abbrev pub IsGiven : Bool → ℕ → Threads → Threads → ℕ → ℕ → Type 0
IsGiven reads lock before after t moment =
    (thread : Thread) × (late : Bool) × (get before t ≡ Some thread) × WaitsFor reads lock moment thread
    × (get after t ≡ Some (has_come_to (Granted late) thread))

-- To whom a lock is handed.
pub record InTurn : Type 0 where
  -- each thread is what it was, or it is given the lock for which it waited
  pub others : (lock : ℕ) (threads : Threads) (t : ℕ)
      → (get (handed lock threads) t ≡ get threads t) ⊎ ((reads : Bool) × (moment : ℕ) × IsGiven reads lock threads (handed lock threads) t moment)
  -- where some wait, some is given it
  pub some : (reads : Bool) (lock : ℕ) (threads : Threads) (t moment : ℕ) → Waiter reads lock threads t moment
      → (r : Bool) × (u : ℕ) × (since : ℕ) × IsGiven r lock threads (handed lock threads) u since
  -- where one has waited longer than a thread that is given it, both are, to read
  pub turn : (reads r : Bool) (lock : ℕ) (threads : Threads) (t u moment longer : ℕ) → IsGiven reads lock threads (handed lock threads) t moment
      → Waiter r lock threads u longer → longer < moment → (reads ≡ true) × (r ≡ true) × IsGiven true lock threads (handed lock threads) u longer
  -- one that is given it to write is given it alone
  pub alone : (r : Bool) (lock : ℕ) (threads : Threads) (t u moment other : ℕ) → IsGiven false lock threads (handed lock threads) t moment
      → IsGiven r lock threads (handed lock threads) u other → u ≡ t
  -- and where one is given it to read, so is each that waits to read and has waited no shorter than each that waits to write
  pub together : (lock : ℕ) (threads : Threads) (t u moment since : ℕ) → IsGiven true lock threads (handed lock threads) t moment
      → Waiter true lock threads u since → ((w other : ℕ) → Waiter false lock threads w other → since ≤ other)
      → IsGiven true lock threads (handed lock threads) u since
  -- of one that has left its condition variable it is kept whether its time had come before a signal
  pub late : (lock : ℕ) (threads : Threads) (t : ℕ) (call : Call) (since moment : ℕ) (until : Option ℕ) (came : Bool)
      → get threads t ≡ Some (Waits call since until (Queued moment came))
      → (get (handed lock threads) t ≡ get threads t) ⊎ (get (handed lock threads) t ≡ Some (Waits call since until (Granted came)))

-- the word is this one, with bit 31 beside it exactly where some of the threads wait for the lock
pub record IsManaged (lock : ℕ) (threads : Threads) (low word : ℕ) : Type 0 where
  pub waits : (reads : Bool) (t moment : ℕ) → Waiter reads lock threads t moment → word ≡ low + 2 ^ 31
  pub none : NoneWaits lock threads → word ≡ low

-- the map has those threads alone that are given the lock to read
abbrev pub AreReaders : ℕ → Threads → Threads → FinMap nat_cmp Thread → Type 0
AreReaders lock before after readers = (t : ℕ) → IsSome (get readers t) ↔ ((moment : ℕ) × IsGiven true lock before after t moment)

-- The word of the lock then: 0 where nobody waited; 2^30 and the number of the thread that is given it to write; or how many are given it to
-- read.
pub record WordTellsOwner : Type 0 where
  pub nobody : (lock : ℕ) (threads : Threads) → NoneWaits lock threads → handed_word lock threads ≡ 0
  pub writer : (lock : ℕ) (threads : Threads) (t moment : ℕ) → IsGiven false lock threads (handed lock threads) t moment
      → IsManaged lock (handed lock threads) (2 ^ 30 + t) (handed_word lock threads)
  pub readers : (lock : ℕ) (threads : Threads) (t moment : ℕ) (readers : FinMap nat_cmp Thread)
      → IsGiven true lock threads (handed lock threads) t moment → AreReaders lock threads (handed lock threads) readers
      → IsManaged lock (handed lock threads) (len readers) (handed_word lock threads)

-- ---- signals

-- thread t waited at the condition variable since this moment, and was signalled
abbrev pub IsCalled : ℕ → Threads → Threads → ℕ → ℕ → Type 0
IsCalled condvar before after t moment =
    (thread : Thread) × (get before t ≡ Some thread) × SleepsAt condvar moment thread × (get after t ≡ Some (has_come_to Signalled thread))

-- the map has those threads alone that wait at the condition variable
abbrev pub AreSleepers : ℕ → Threads → FinMap nat_cmp Thread → Type 0
AreSleepers condvar threads sleepers = (t : ℕ) → IsSome (get sleepers t) ↔ ((moment : ℕ) × Sleeper condvar threads t moment)

-- Who is signalled of those that wait at a condition variable.
pub record SignalsInTurn : Type 0 where
  -- each thread is what it was, or it waited there and is signalled
  pub others : (n condvar : ℕ) (threads : Threads) (t : ℕ)
      → (get (signalled n condvar threads) t ≡ get threads t) ⊎ ((moment : ℕ) × IsCalled condvar threads (signalled n condvar threads) t moment)
  -- each that has waited longer than one that is signalled is too
  pub turn : (n condvar : ℕ) (threads : Threads) (t u moment longer : ℕ) → IsCalled condvar threads (signalled n condvar threads) t moment
      → Sleeper condvar threads u longer → longer < moment → IsCalled condvar threads (signalled n condvar threads) u longer
  -- as many fewer wait as are to be signalled, or none
  pub count : (n condvar : ℕ) (threads : Threads) (before after : FinMap nat_cmp Thread) → AreSleepers condvar threads before
      → AreSleepers condvar (signalled n condvar threads) after → len after ≡ len before - n
  -- the condition variable's word is 1 exactly where some wait still
  pub waits : (n condvar : ℕ) (threads : Threads) (t moment : ℕ) → Sleeper condvar (signalled n condvar threads) t moment
      → signalled_word n condvar threads ≡ 1
  pub none : (n condvar : ℕ) (threads : Threads) → ((t moment : ℕ) → ¬ Sleeper condvar (signalled n condvar threads) t moment)
      → signalled_word n condvar threads ≡ 0
