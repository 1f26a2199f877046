-- What threads are answered that ask for locks, let them go or wait at condition variables, in other words than the meanings of their calls: the
-- statements that are the contracts of the last functions of src/lock_laws.rt.
--     words of locks: IsFree, IsHeldToWrite, IsHeldToRead
--     polls of locks: LockIsAsked, LockWaitEnds; lock_unlock: LockIsLetGo, LockComesBack; condvar_signal: ConditionIsSignalled
--     polls of condition variables: ConditionIsAsked, ConditionWaitEnds
use Rattle.std.specs.Prelude.{◌≡◌, ◌≢◌, ◌↔◌, ◌⊎◌, ℕ, ◌+◌, ◌-◌, ◌*◌, ◌^◌, ◌<◌, Bool, true, false, List, [], ◌∷◌, None, Some, IsSome}
use Rattle.std.specs.FinMap.{get}
use Rattle.abi_base.specs.Errno.{number_of}
use Rattle.abi_base.specs.declared.errno.Errno.{Errno}
use Rattle.abi_base.specs.declared.errno.Errno.TheVariants.{Again, Deadlk, Perm, Success, TimedOut}
use Rattle.abi_structures.specs.declared.events.Subscription.{Subscription}
use Rattle.abi_structures.specs.declared.events.What.{What}
use Rattle.abi_structures.specs.declared.events.What.TheVariants.{Condvar, LockRdlock, LockWrlock}
use Rattle.abi_types.specs.declared.call.Call.{Call}
use Rattle.abi_types.specs.declared.call.Call.TheVariants.{CondvarSignal, LockUnlock, Poll}
use Rattle.abi_types.specs.declared.constants.Constants.{Constants}
use Rattle.abi_types.specs.declared.reply.Answer.{Answer}
use Rattle.abi_types.specs.declared.reply.Answer.TheVariants as answer
use Rattle.abi_types.specs.declared.reply.Payload.TheVariants.{Event}
use Rattle.abi_types.specs.declared.reply.WordWrites.{WordWrites}
use Rattle.abi_types.specs.declared.reply.WordWrites.TheVariants.{Zero, One, Two}
use Rattle.abi_types.specs.declared.thread.Stage.{Stage}
use Rattle.abi_types.specs.declared.thread.Stage.TheVariants.{Begun, Signalled, Queued, Granted}
use Rattle.abi_types.specs.declared.thread.Thread.TheVariants.{Waits}
use Rattle.abi_types.specs.declared.who.Who.{Who}
use Rattle.kernel_model.specs.Families.Locks.{handed, handed_word, signalled, signalled_word}
use Rattle.kernel_model.specs.Families.WaitCalls.{wait_rows}
use Rattle.kernel_model.specs.LockLaws.{NoneWaits, Waiter}
use Rattle.kernel_model.specs.Reply.{refused, success}
use Rattle.kernel_model.specs.State.{ProcessState, State}
use Rattle.kernel_model.specs.Step.{failed, step_answer, IsStep}
use Rattle.kernel_model.specs.ThreadLaws.{with_own}
use Rattle.kernel_model.specs.Valid.{IsValid}
use Rattle.kernel_model.specs.Waits.{waiting}

-- ---- words of locks

-- Of a lock that nobody has, that the thread of this number has to write, and that so many threads have to read, by its word. Bit 31 says nothing
-- of that; bit 30 is that a thread has it to write.
abbrev pub IsFree : ℕ → Type 0
IsFree word = (high : ℕ) × (word ≡ high * 2 ^ 31)

abbrev pub IsHeldToWrite : ℕ → ℕ → Type 0
IsHeldToWrite owner word = (high : ℕ) × (owner < 2 ^ 30) × (word ≡ high * 2 ^ 31 + 2 ^ 30 + owner)

abbrev pub IsHeldToRead : ℕ → ℕ → Type 0
IsHeldToRead readers word = (high : ℕ) × (0 < readers) × (readers < 2 ^ 30) × (word ≡ high * 2 ^ 31 + readers)

-- the word with bit 31 set
abbrev pub IsMarked : ℕ → ℕ → Type 0
IsMarked word marked = (low : ℕ) × (low < 2 ^ 31) × ((word ≡ low) ⊎ (word ≡ 2 ^ 31 + low)) × (marked ≡ 2 ^ 31 + low)

-- ---- what is answered

-- the one event, of this type and with this error, and these words are written
abbrev pub tells_event : ℕ → ℕ → Errno → WordWrites → Answer
tells_event userdata kind errno writes =
    answer.Reply (record (success 1 0) {
      payload = Event (record { userdata = userdata; error = number_of errno; kind = kind; nbytes = 0; flags = 0; signal = 0; code = 0 });
      writes = writes;
    })

abbrev pub writes_one : ℕ → ℕ → WordWrites
writes_one address word = One (record { address = address; word = word })

-- the call is done, and the word is written
abbrev pub writes_word : ℕ → ℕ → Answer
writes_word address word = answer.Reply (record (success 0 0) { writes = writes_one address word })

-- the thread waits, and the word of the lock has bit 31 set
abbrev pub WaitsMarked : ℕ → ℕ → Answer → Type 0
WaitsMarked lock word given = word < 2 ^ 32 → (marked : ℕ) × IsMarked word marked × (given ≡ answer.Parked (writes_one lock marked))

-- ---- who asks

-- The caller is of a process that has a table and this of its own. Beside its subscription of a lock or a condition variable its poll has
-- these, which need no right: a clock's, or none.
pub record IsAsking (S : State) (who : Who) (own : ProcessState) (rest : List Subscription) : Type 0 where
  pub table : IsSome (get S.tables who.pid)
  pub process : get S.processes who.pid ≡ Some own
  pub plain : wait_rows rest ≡ []

abbrev pub lock_what : Bool → ℕ → ℕ → ℕ → What
lock_what true lock word scope = LockRdlock lock word scope
lock_what false lock word scope = LockWrlock lock word scope

-- the type of its event
abbrev pub lock_kind : Bool → ℕ
lock_kind true = 5
lock_kind false = 6

-- a poll of a lock, to read (`true`) or to write
abbrev pub lock_call : Bool → ℕ → ℕ → ℕ → ℕ → List Subscription → Call
lock_call reads userdata lock word scope rest = Poll (record { userdata = userdata; what = lock_what reads lock word scope } ∷ rest)

-- ---- polls of locks

-- What a thread is answered that asks for a lock.
pub record LockIsAsked : Type 0 where
  -- one that has it to write is refused by DEADLK
  pub deadlock : (constants : Constants) (S : State) (who : Who) (own : ProcessState) (rest : List Subscription) (reads : Bool)
      (userdata lock word scope : ℕ) → IsAsking S who own rest → who.stage ≡ None → IsHeldToWrite who.tid word
      → step_answer constants S who (lock_call reads userdata lock word scope rest) ≡ tells_event userdata (lock_kind reads) Deadlk Zero
  -- any other one waits where others wait
  pub behind : (constants : Constants) (S : State) (who : Who) (own : ProcessState) (rest : List Subscription) (reads : Bool)
      (userdata lock word scope : ℕ) → IsAsking S who own rest → who.stage ≡ None → ¬ IsHeldToWrite who.tid word
      → (r : Bool) (t moment : ℕ) → Waiter r lock own.threads t moment
      → WaitsMarked lock word (step_answer constants S who (lock_call reads userdata lock word scope rest))
  -- where none waits it gets a lock that nobody has
  pub read_free : (constants : Constants) (S : State) (who : Who) (own : ProcessState) (rest : List Subscription) (userdata lock word scope : ℕ)
      → IsAsking S who own rest → who.stage ≡ None → NoneWaits lock own.threads → IsFree word
      → step_answer constants S who (lock_call true userdata lock word scope rest) ≡ tells_event userdata 5 Success (writes_one lock 1)
  pub write_free : (constants : Constants) (S : State) (who : Who) (own : ProcessState) (rest : List Subscription) (userdata lock word scope : ℕ)
      → IsAsking S who own rest → who.stage ≡ None → NoneWaits lock own.threads → IsFree word
      → step_answer constants S who (lock_call false userdata lock word scope rest) ≡ tells_event userdata 6 Success (writes_one lock (2 ^ 30 + who.tid))
  -- and it reads with others, of which there are fewer than 2^30 - 1; then it is AGAIN
  pub joins : (constants : Constants) (S : State) (who : Who) (own : ProcessState) (rest : List Subscription) (userdata lock word scope readers : ℕ)
      → IsAsking S who own rest → who.stage ≡ None → NoneWaits lock own.threads → IsHeldToRead readers word → readers < 2 ^ 30 - 1
      → step_answer constants S who (lock_call true userdata lock word scope rest) ≡ tells_event userdata 5 Success (writes_one lock (readers + 1))
  pub many : (constants : Constants) (S : State) (who : Who) (own : ProcessState) (rest : List Subscription) (userdata lock word scope : ℕ)
      → IsAsking S who own rest → who.stage ≡ None → NoneWaits lock own.threads → IsHeldToRead (2 ^ 30 - 1) word
      → step_answer constants S who (lock_call true userdata lock word scope rest) ≡ tells_event userdata 5 Again Zero
  -- else it waits
  pub behind_readers : (constants : Constants) (S : State) (who : Who) (own : ProcessState) (rest : List Subscription)
      (userdata lock word scope readers : ℕ) → IsAsking S who own rest → who.stage ≡ None → NoneWaits lock own.threads → IsHeldToRead readers word
      → WaitsMarked lock word (step_answer constants S who (lock_call false userdata lock word scope rest))
  pub behind_writer : (constants : Constants) (S : State) (who : Who) (own : ProcessState) (rest : List Subscription) (reads : Bool)
      (userdata lock word scope owner : ℕ) → IsAsking S who own rest → who.stage ≡ None → NoneWaits lock own.threads → owner ≢ who.tid
      → IsHeldToWrite owner word → WaitsMarked lock word (step_answer constants S who (lock_call reads userdata lock word scope rest))

-- One that was given the lock has it, and one whose time comes before has TIMEDOUT.
pub record LockWaitEnds : Type 0 where
  pub given : (constants : Constants) (S : State) (who : Who) (own : ProcessState) (rest : List Subscription) (reads late : Bool)
      (userdata lock word scope : ℕ) → IsAsking S who own rest → who.stage ≡ Some (Granted late)
      → step_answer constants S who (lock_call reads userdata lock word scope rest) ≡ tells_event userdata (lock_kind reads) Success Zero
  pub late : (constants : Constants) (S : State) (who : Who) (own : ProcessState) (rest : List Subscription) (reads : Bool)
      (userdata lock word scope : ℕ) → IsAsking S who own rest → who.stage ≡ Some Begun
      → step_answer constants S who (lock_call reads userdata lock word scope rest) ≡ tells_event userdata (lock_kind reads) TimedOut Zero

-- ---- lock_unlock

-- What a thread is answered that lets a lock go.
pub record LockIsLetGo : Type 0 where
  -- it is PERM exactly where nobody has the lock, or another thread has it to write
  pub refused : (constants : Constants) (S : State) (who : Who) (own : ProcessState) (lock word scope : ℕ) → IsSome (get S.tables who.pid)
      → get S.processes who.pid ≡ Some own
      → (step_answer constants S who (LockUnlock lock word scope) ≡ answer.Reply (refused Perm))
      ↔ (IsFree word ⊎ ((owner : ℕ) × (owner ≢ who.tid) × IsHeldToWrite owner word))
  -- of several that read one less does
  pub shared : (constants : Constants) (S : State) (who : Who) (own : ProcessState) (lock word scope readers : ℕ) → IsSome (get S.tables who.pid)
      → get S.processes who.pid ≡ Some own → IsHeldToRead readers word → 1 < readers
      → step_answer constants S who (LockUnlock lock word scope) ≡ writes_word lock (word - 1)
  -- and else the lock is handed on
  pub last : (constants : Constants) (S : State) (who : Who) (own : ProcessState) (lock word scope : ℕ) → IsSome (get S.tables who.pid)
      → get S.processes who.pid ≡ Some own → IsHeldToWrite who.tid word ⊎ IsHeldToRead 1 word
      → step_answer constants S who (LockUnlock lock word scope) ≡ writes_word lock (handed_word lock own.threads)
  -- that alone is changed
  pub shared_leaves : (constants : Constants) (S : State) (who : Who) (own : ProcessState) (lock word scope readers : ℕ) (given : Answer) (T : State)
      → IsValid S → IsSome (get S.tables who.pid) → get S.processes who.pid ≡ Some own → IsHeldToRead readers word → 1 < readers
      → IsStep constants S who (LockUnlock lock word scope) given T → T ≡ failed S who
  pub last_leaves : (constants : Constants) (S : State) (who : Who) (own : ProcessState) (lock word scope : ℕ) (given : Answer) (T : State)
      → IsValid S → IsSome (get S.tables who.pid) → get S.processes who.pid ≡ Some own → IsHeldToWrite who.tid word ⊎ IsHeldToRead 1 word
      → IsStep constants S who (LockUnlock lock word scope) given T → T ≡ with_own S who.pid (record own { threads = handed lock own.threads })

-- A thread that takes a free lock and lets it go again, while none waits for it either time, leaves its word 0.
abbrev pub LockComesBack : Type 0
LockComesBack =
    (constants : Constants) (S T : State) (who by : Who) (own left : ProcessState) (rest : List Subscription) (reads : Bool)
    (userdata lock word scope new : ℕ) → IsAsking S who own rest → who.stage ≡ None → who.tid < 2 ^ 30 → NoneWaits lock own.threads → IsFree word
    → step_answer constants S who (lock_call reads userdata lock word scope rest) ≡ tells_event userdata (lock_kind reads) Success (writes_one lock new)
    → by.tid ≡ who.tid → IsSome (get T.tables by.pid) → get T.processes by.pid ≡ Some left → NoneWaits lock left.threads
    → step_answer constants T by (LockUnlock lock new scope) ≡ writes_word lock 0

-- ---- condvar_signal

-- A condvar_signal signals so many of the threads of its process, and writes the word of the condition variable; nothing else is changed.
pub record ConditionIsSignalled : Type 0 where
  pub writes : (constants : Constants) (S : State) (who : Who) (own : ProcessState) (condvar word scope n : ℕ) → IsSome (get S.tables who.pid)
      → get S.processes who.pid ≡ Some own
      → step_answer constants S who (CondvarSignal condvar word scope n) ≡ writes_word condvar (signalled_word n condvar own.threads)
  pub leaves : (constants : Constants) (S : State) (who : Who) (own : ProcessState) (condvar word scope n : ℕ) (given : Answer) (T : State) → IsValid S
      → IsSome (get S.tables who.pid) → get S.processes who.pid ≡ Some own → IsStep constants S who (CondvarSignal condvar word scope n) given T
      → T ≡ with_own S who.pid (record own { threads = signalled n condvar own.threads })

-- ---- polls of condition variables

-- a poll of the condition variable with a lock whose word is this
abbrev pub condition_call : ℕ → ℕ → ℕ → ℕ → ℕ → ℕ → ℕ → List Subscription → Call
condition_call userdata condvar condvar_word lock word condvar_scope lock_scope rest =
    Poll (record { userdata = userdata; what = Condvar condvar condvar_word lock word condvar_scope lock_scope } ∷ rest)

-- What a thread is answered that begins to wait at a condition variable.
pub record ConditionIsAsked : Type 0 where
  -- one that doesn't have the lock to write is answered PERM, and nothing is changed
  pub refused : (constants : Constants) (S : State) (who : Who) (own : ProcessState) (rest : List Subscription)
      (userdata condvar condvar_word lock word condvar_scope lock_scope : ℕ) → IsAsking S who own rest → who.stage ≡ None → ¬ IsHeldToWrite who.tid word
      → step_answer constants S who (condition_call userdata condvar condvar_word lock word condvar_scope lock_scope rest)
      ≡ tells_event userdata 2 Perm Zero
  pub unchanged : (constants : Constants) (S : State) (who : Who) (own : ProcessState) (rest : List Subscription)
      (userdata condvar condvar_word lock word condvar_scope lock_scope : ℕ) (given : Answer) (T : State) → IsAsking S who own rest → who.stage ≡ None
      → ¬ IsHeldToWrite who.tid word → IsValid S
      → IsStep constants S who (condition_call userdata condvar condvar_word lock word condvar_scope lock_scope rest) given T → T ≡ failed S who
  -- any other waits; the word of the condition variable is 1, and the lock is handed on
  pub sleeps : (constants : Constants) (S : State) (who : Who) (own : ProcessState) (rest : List Subscription)
      (userdata condvar condvar_word lock word condvar_scope lock_scope : ℕ) → IsAsking S who own rest → who.stage ≡ None → IsHeldToWrite who.tid word
      → step_answer constants S who (condition_call userdata condvar condvar_word lock word condvar_scope lock_scope rest)
      ≡ answer.Parked (Two (record { address = condvar; word = 1 }) (record { address = lock; word = handed_word lock own.threads }))

-- a thread that waits at a condition variable goes on: its time has come (`true`) or it was signalled
abbrev pub IsWoken : Bool → Stage → Type 0
IsWoken late stage = ((late ≡ true) × (stage ≡ Begun)) ⊎ ((late ≡ false) × (stage ≡ Signalled))

-- the error of its event
abbrev pub late_error : Bool → Errno
late_error true = TimedOut
late_error false = Success

-- What it comes to then, by the word that the lock has.
pub record ConditionWaitEnds : Type 0 where
  -- it takes the lock, where nobody has it and none waits
  pub takes : (constants : Constants) (S : State) (who : Who) (own : ProcessState) (rest : List Subscription) (late : Bool) (stage : Stage)
      (userdata condvar condvar_word lock word condvar_scope lock_scope : ℕ) → IsAsking S who own rest → who.stage ≡ Some stage → IsWoken late stage
      → IsFree word → NoneWaits lock own.threads
      → step_answer constants S who (condition_call userdata condvar condvar_word lock word condvar_scope lock_scope rest)
      ≡ tells_event userdata 2 (late_error late) (writes_one lock (2 ^ 30 + who.tid))
  -- else it waits for the lock from then on, without a deadline
  pub behind : (constants : Constants) (S : State) (who : Who) (own : ProcessState) (rest : List Subscription) (late : Bool) (stage : Stage)
      (userdata condvar condvar_word lock word condvar_scope lock_scope : ℕ) → IsAsking S who own rest → who.stage ≡ Some stage → IsWoken late stage
      → (r : Bool) (t moment : ℕ) → Waiter r lock own.threads t moment
      → WaitsMarked lock word (step_answer constants S who (condition_call userdata condvar condvar_word lock word condvar_scope lock_scope rest))
  pub held : (constants : Constants) (S : State) (who : Who) (own : ProcessState) (rest : List Subscription) (late : Bool) (stage : Stage)
      (userdata condvar condvar_word lock word condvar_scope lock_scope : ℕ) → IsAsking S who own rest → who.stage ≡ Some stage → IsWoken late stage
      → ¬ IsFree word
      → WaitsMarked lock word (step_answer constants S who (condition_call userdata condvar condvar_word lock word condvar_scope lock_scope rest))
  pub waits : (constants : Constants) (who : Who) (rest : List Subscription) (late : Bool) (stage : Stage)
      (userdata condvar condvar_word lock word condvar_scope lock_scope now : ℕ) → who.stage ≡ Some stage → IsWoken late stage
      → waiting constants (condition_call userdata condvar condvar_word lock word condvar_scope lock_scope rest) who now
      ≡ Waits (condition_call userdata condvar condvar_word lock word condvar_scope lock_scope rest) who.since None (Queued now late)
  -- and once it was given the lock, its event is TIMEDOUT exactly where its time had come before a signal
  pub given : (constants : Constants) (S : State) (who : Who) (own : ProcessState) (rest : List Subscription) (late : Bool)
      (userdata condvar condvar_word lock word condvar_scope lock_scope : ℕ) → IsAsking S who own rest → who.stage ≡ Some (Granted late)
      → step_answer constants S who (condition_call userdata condvar condvar_word lock word condvar_scope lock_scope rest)
      ≡ tells_event userdata 2 (late_error late) Zero
