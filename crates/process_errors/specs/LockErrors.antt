-- What condvar_signal comes to, and a poll that begins with a lock or a condition variable, in other words than their meanings: a line for each case,
-- with all of its conditions.
use Rattle.std.specs.Prelude.{◌≡◌, ◌≢◌, ◌↔◌, ◌⊎◌, ⊤, ℕ, ◌+◌, ◌-◌, ◌^◌, ◌<◌, ◌≤◌, Bool, true, false, List, [], ◌∷◌, None}
use Rattle.std.specs.Ordering.{nat_cmp}
use Rattle.std.specs.FinMap.{FinMap, len}
use Rattle.abi_base.specs.declared.errno.Errno.TheVariants.{Again, Deadlk, Perm, Success}
use Rattle.abi_structures.specs.declared.events.Subscription.{Subscription}
use Rattle.abi_structures.specs.declared.events.What.{What}
use Rattle.abi_structures.specs.declared.events.What.TheVariants.{Clock}
use Rattle.abi_types.specs.declared.call.Call.TheVariants.{CondvarSignal}
use Rattle.abi_types.specs.declared.constants.Constants.{Constants}
use Rattle.abi_types.specs.declared.reply.Answer.{Answer}
use Rattle.abi_types.specs.declared.reply.Answer.TheVariants as answer
use Rattle.abi_types.specs.declared.reply.WordWrites.TheVariants.{Zero, Two}
use Rattle.abi_types.specs.declared.thread.Thread.{Thread}
use Rattle.abi_types.specs.declared.who.Who.{Who}
use Rattle.kernel_model.specs.Families.Locks.{handed_word}
use Rattle.kernel_model.specs.LockCallLaws.{condition_call, lock_call, lock_kind, tells_event, writes_one, writes_word, IsFree, IsHeldToRead, IsHeldToWrite, IsMarked}
use Rattle.kernel_model.specs.LockLaws.{AreSleepers, NoneWaits, Waiter}
use Rattle.kernel_model.specs.State.{ProcessState, State, Table, Threads}
use Rattle.kernel_model.specs.Step.{step_answer}
use Rattle.process_errors.specs.Verdicts.{IsUnrefused}

-- ---- condvar_signal

-- What a signal of so many threads comes to, of these that are the process's: it is always done, and writes the condition variable's word.
pub data SignalComesTo (condvar n : ℕ) (threads : Threads) : Answer → Type 0 where
  -- 0 where no more wait there than are signalled
  none_left : (sleepers : FinMap nat_cmp Thread) → AreSleepers condvar threads sleepers → len sleepers ≤ n
      → SignalComesTo condvar n threads (writes_word condvar 0)
  -- 1 where more do
  some_left : (sleepers : FinMap nat_cmp Thread) → AreSleepers condvar threads sleepers → n < len sleepers
      → SignalComesTo condvar n threads (writes_word condvar 1)

abbrev pub SignalIsListed : Type 0
SignalIsListed =
    (constants : Constants) (S : State) (who : Who) (condvar word scope n : ℕ) (table : Table) (own : ProcessState) (given : Answer)
    → IsUnrefused S who (CondvarSignal condvar word scope n) table own
    → SignalComesTo condvar n own.threads given ↔ (given ≡ step_answer constants S who (CondvarSignal condvar word scope n))

-- ---- a poll of a lock

-- behind the subscription of a lock or a condition variable stands none, or that of a clock
abbrev pub IsClock : What → Type 0
IsClock (Clock clock timeout precision flags) = ⊤
IsClock what = ⊥

abbrev pub IsAloneOrTimed : List Subscription → Type 0
IsAloneOrTimed [] = ⊤
IsAloneOrTimed (second ∷ []) = IsClock second.what
IsAloneOrTimed (second ∷ third ∷ rest) = ⊥

-- some thread waits for the lock already
abbrev pub SomeWaits : ℕ → Threads → Type 0
SomeWaits lock threads = (reads : Bool) × (t : ℕ) × (moment : ℕ) × Waiter reads lock threads t moment

-- The lock isn't to be had now: others wait for it, another thread has it to write, or it is asked for to write and had to read.
abbrev pub IsBehind : Bool → ℕ → ℕ → ℕ → Threads → Type 0
IsBehind reads t lock word threads =
    SomeWaits lock threads
    ⊎ ((owner : ℕ) × (owner ≢ t) × IsHeldToWrite owner word)
    ⊎ ((reads ≡ false) × ((readers : ℕ) × IsHeldToRead readers word))

-- What it comes to that thread t asks for the lock at this address, to read (`true`) or to write, whose word is this.
pub data LockComesTo (reads : Bool) (userdata t lock word : ℕ) (threads : Threads) : Answer → Type 0 where
  -- DEADLK: it has the lock to write itself
  deadlock : IsHeldToWrite t word → LockComesTo reads userdata t lock word threads (tells_event userdata (lock_kind reads) Deadlk Zero)
  -- AGAIN: it would read, and as many read as the word can count
  too_many : reads ≡ true → NoneWaits lock threads → IsHeldToRead (2 ^ 30 - 1) word
      → LockComesTo reads userdata t lock word threads (tells_event userdata (lock_kind reads) Again Zero)
  -- it has a free lock, to read or to write
  read : reads ≡ true → NoneWaits lock threads → IsFree word
      → LockComesTo reads userdata t lock word threads (tells_event userdata (lock_kind reads) Success (writes_one lock 1))
  written : reads ≡ false → NoneWaits lock threads → IsFree word
      → LockComesTo reads userdata t lock word threads (tells_event userdata (lock_kind reads) Success (writes_one lock (2 ^ 30 + t)))
  -- it reads with others
  joined : (readers : ℕ) → reads ≡ true → NoneWaits lock threads → IsHeldToRead readers word → readers < 2 ^ 30 - 1
      → LockComesTo reads userdata t lock word threads (tells_event userdata (lock_kind reads) Success (writes_one lock (readers + 1)))
  -- else it waits, and the word is marked
  awaits_lock : (marked : ℕ) → ¬ IsHeldToWrite t word → IsBehind reads t lock word threads → IsMarked word marked
      → LockComesTo reads userdata t lock word threads (answer.Parked (writes_one lock marked))

-- The thread asks now, and doesn't wait already. `LockWaitEnds` says how a wait ends.
abbrev pub LockPollIsListed : Type 0
LockPollIsListed =
    (constants : Constants) (S : State) (who : Who) (rest : List Subscription) (reads : Bool) (userdata lock word scope : ℕ) (table : Table)
    (own : ProcessState) (given : Answer) → IsUnrefused S who (lock_call reads userdata lock word scope rest) table own → IsAloneOrTimed rest
    → who.stage ≡ None → word < 2 ^ 32
    → LockComesTo reads userdata who.tid lock word own.threads given ↔ (given ≡ step_answer constants S who (lock_call reads userdata lock word scope rest))

-- ---- a poll of a condition variable

-- What it comes to that thread t begins to wait there with this lock.
pub data ConditionComesTo (userdata t condvar lock word : ℕ) (threads : Threads) : Answer → Type 0 where
  -- PERM: it doesn't have the lock to write
  not_held : ¬ IsHeldToWrite t word → ConditionComesTo userdata t condvar lock word threads (tells_event userdata 2 Perm Zero)
  -- else it waits, and the lock is handed on
  sleeps : IsHeldToWrite t word
      → ConditionComesTo userdata t condvar lock word threads
      (answer.Parked (Two (record { address = condvar; word = 1 }) (record { address = lock; word = handed_word lock threads })))

-- `ConditionWaitEnds` says how its wait ends.
abbrev pub ConditionPollIsListed : Type 0
ConditionPollIsListed =
    (constants : Constants) (S : State) (who : Who) (rest : List Subscription) (userdata condvar condvar_word lock word condvar_scope lock_scope : ℕ)
    (table : Table) (own : ProcessState) (given : Answer)
    → IsUnrefused S who (condition_call userdata condvar condvar_word lock word condvar_scope lock_scope rest) table own → IsAloneOrTimed rest
    → who.stage ≡ None
    → ConditionComesTo userdata who.tid condvar lock word own.threads given
    ↔ (given ≡ step_answer constants S who (condition_call userdata condvar condvar_word lock word condvar_scope lock_scope rest))
