-- What calls on threads, on clocks and for random bytes do, in other words than their meanings: the statements that are the contracts of the
-- functions of src/thread_laws.rt.
use Rattle.std.specs.Prelude.{◌≡◌, ◌≢◌, ◌⊎◌, ℕ, ◌+◌, ◌-◌, ◌*◌, ◌^◌, ◌<◌, ◌≤◌, None, Some, IsSome}
use Rattle.std.specs.FinMap.{get, insert, len, remove}
use Rattle.clock_random.specs.Random.{random_bytes, words_of}
use Rattle.abi_base.specs.declared.errno.Errno.TheVariants.{Again, Perm, Success}
use Rattle.abi_base.specs.declared.limits.TheConstants.{MOST_THREADS}
use Rattle.abi_structures.specs.declared.structures.ThreadAttr.{ThreadAttr}
use Rattle.abi_types.specs.declared.call.Call.TheVariants.{ClockResGet, ClockTimeGet, ProcExit, RandomGet, ThreadCreate, ThreadExit, ThreadYield}
use Rattle.abi_types.specs.declared.constants.Constants.{Constants}
use Rattle.abi_types.specs.declared.reply.Answer.{Answer}
use Rattle.abi_types.specs.declared.reply.Answer.TheVariants as answer
use Rattle.abi_types.specs.declared.reply.Payload.TheVariants.{Content}
use Rattle.abi_types.specs.declared.reply.Reply.{Reply}
use Rattle.abi_types.specs.declared.reply.WordWrites.TheVariants.{One}
use Rattle.abi_types.specs.declared.thread.Thread.TheVariants.{Runnable}
use Rattle.abi_types.specs.declared.who.Who.{Who}
use Rattle.kernel_model.specs.Families.Locks.{hands_on, leaves, refuses, release_of, released_threads, released_word}
use Rattle.kernel_model.specs.PollLaws.{shown}
use Rattle.kernel_model.specs.Reply.{refused, success}
use Rattle.kernel_model.specs.State.{ProcessState, State}
use Rattle.kernel_model.specs.Step.{failed, step_answer, step_state, tick, IsStep}
use Rattle.kernel_model.specs.Valid.{IsValid}

-- the state an entry later in which the process p has this of its own, and all else is the same
abbrev pub with_own : State → ℕ → ProcessState → State
with_own S p own = record (tick S) { processes = insert S.processes p own }

-- the caller is a thread of its process, which has this of its own
abbrev pub IsCaller : State → Who → ProcessState → Type 0
IsCaller S who own = (get S.processes who.pid ≡ Some own) × IsSome (get own.threads who.tid)

-- ---- thread_create

-- Where fewer than 64 threads of the process live, and it has numbered fewer than 2^30 - 2, a thread_create answers the number after all that it
-- has numbered. Else it answers AGAIN.
pub record ThreadsAreFew : Type 0 where
  pub made : (constants : Constants) (S : State) (who : Who) (attributes : ThreadAttr) (own : ProcessState) → IsValid S → IsCaller S who own
      → len own.threads < MOST_THREADS → own.counts.threads + 1 < 2 ^ 30 - 1
      → step_answer constants S who (ThreadCreate attributes) ≡ answer.Reply (success (own.counts.threads + 1) 0)
  pub refused : (constants : Constants) (S : State) (who : Who) (attributes : ThreadAttr) (own : ProcessState) → IsValid S → IsCaller S who own
      → (MOST_THREADS ≤ len own.threads) ⊎ (2 ^ 30 - 1 ≤ own.counts.threads + 1)
      → step_answer constants S who (ThreadCreate attributes) ≡ answer.Reply (refused Again)

-- One that succeeds has such a process. It leaves it a thread more, which runs, and that it has numbered one more; nothing else is changed.
pub record IsThreadMade (S : State) (who : Who) (reply : Reply) (T : State) : Type 0 where
  pub own : ProcessState
  pub caller : IsCaller S who own
  pub few : len own.threads < MOST_THREADS
  pub number : reply ≡ success (own.counts.threads + 1) 0
  pub leaves : T
      ≡ with_own S who.pid
      (record own { threads = insert own.threads (own.counts.threads + 1) Runnable; counts = record own.counts { threads = own.counts.threads + 1 } })

abbrev pub ThreadIsMade : Type 0
ThreadIsMade =
    (constants : Constants) (S : State) (who : Who) (attributes : ThreadAttr) (reply : Reply) (T : State) → IsValid S
    → IsStep constants S who (ThreadCreate attributes) (answer.Reply reply) T → reply.errno ≡ Success → IsThreadMade S who reply T

-- ---- the words of locks

-- What it comes to that thread t lets go of a lock, by the lock's word. `high` is its bit 31, which says nothing of who has the
-- lock: bit 30 is that a thread has it to write, whose number the bits below are, and else these count the threads that have it to read.
pub record LocksAreLetGo : Type 0 where
  -- one that nobody has can't be let go
  pub free : (t high : ℕ) → release_of t (high * 2 ^ 31) ≡ refuses
  -- nor can one that another thread has to write
  pub other : (t high owner : ℕ) → owner < 2 ^ 30 → owner ≢ t → release_of t (high * 2 ^ 31 + 2 ^ 30 + owner) ≡ refuses
  -- that of the thread that has it to write is handed on
  pub writer : (t high : ℕ) → t < 2 ^ 30 → release_of t (high * 2 ^ 31 + 2 ^ 30 + t) ≡ hands_on
  -- of several that have it to read one less has it, and of one it is handed on
  pub readers : (t high readers : ℕ) → 1 < readers → readers < 2 ^ 30 → release_of t (high * 2 ^ 31 + readers) ≡ leaves (high * 2 ^ 31 + (readers - 1))
  pub reader : (t high : ℕ) → release_of t (high * 2 ^ 31 + 1) ≡ hands_on

-- ---- thread_exit

-- A thread that may not let go of the lock is answered PERM, and goes on. Else the reply writes the lock's word.
pub record ExitLetsGo : Type 0 where
  pub refused : (constants : Constants) (S : State) (who : Who) (lock word scope : ℕ) → IsSome (get S.tables who.pid) → release_of who.tid word ≡ refuses
      → step_answer constants S who (ThreadExit lock word scope) ≡ answer.Reply (refused Perm)
  pub writes : (constants : Constants) (S : State) (who : Who) (lock word scope new : ℕ) (own : ProcessState) → IsSome (get S.tables who.pid)
      → get S.processes who.pid ≡ Some own → released_word (release_of who.tid word) lock own.threads ≡ Some new
      → step_answer constants S who (ThreadExit lock word scope)
      ≡ answer.Reply (record (success 0 0) { writes = One (record { address = lock; word = new }) })

-- A thread_exit that succeeds ends its thread alone, where another one is there, and hands its lock on; it changes nothing else. With the last thread it ends its
-- process, as a proc_exit of 0 does.
pub record ExitEndsOne : Type 0 where
  pub one : (constants : Constants) (S : State) (who : Who) (lock word scope : ℕ) (reply : Reply) (T : State) (own : ProcessState) (t : ℕ) → IsValid S
      → IsStep constants S who (ThreadExit lock word scope) (answer.Reply reply) T → reply.errno ≡ Success → get S.processes who.pid ≡ Some own
      → t ≢ who.tid → IsSome (get own.threads t) → T ≡ with_own S who.pid (record own { threads = remove (released_threads (release_of who.tid word) lock own.threads) who.tid })
  pub last : (constants : Constants) (S : State) (who : Who) (lock word scope : ℕ) (reply : Reply) (T : State) (own : ProcessState) → IsValid S
      → IsStep constants S who (ThreadExit lock word scope) (answer.Reply reply) T → reply.errno ≡ Success → get S.processes who.pid ≡ Some own
      → ((t : ℕ) → t ≢ who.tid → get own.threads t ≡ None) → T ≡ step_state constants S who (ProcExit 0)

-- ---- thread_yield and clocks

-- a call of a process answers this, and changes only the clock
abbrev pub OnlyAnswers : State → Who → Answer → State → Reply → Type 0
OnlyAnswers S who given T reply = (given ≡ answer.Reply reply) × (T ≡ failed S who)

-- A thread_yield changes nothing, and the resolution of a clock is 1000 nanoseconds. A clock shows what it does at the call's moment, which is 1000
-- nanoseconds after the state's: MONOTONIC the time since the run began, and REALTIME the time since 1970.
pub record ClocksShow : Type 0 where
  pub yields : (constants : Constants) (S : State) (who : Who) (given : Answer) (T : State) → IsValid S → IsSome (get S.tables who.pid)
      → IsStep constants S who ThreadYield given T → OnlyAnswers S who given T (success 0 0)
  pub resolution : (constants : Constants) (S : State) (who : Who) (clock : ℕ) (given : Answer) (T : State) → IsValid S → IsSome (get S.tables who.pid)
      → IsStep constants S who (ClockResGet clock) given T → OnlyAnswers S who given T (success 1000 0)
  pub time : (constants : Constants) (S : State) (who : Who) (clock precision : ℕ) (given : Answer) (T : State) → IsValid S
      → IsSome (get S.tables who.pid) → IsStep constants S who (ClockTimeGet clock precision) given T
      → OnlyAnswers S who given T (success (shown constants clock (S.clock + 1000)) 0)

-- ---- random bytes

-- A random_get that succeeds gives so many bytes of the stream with its process's number, from the place on to which the process has come, by the
-- run's key. The process has come by as many words further as these bytes have, and nothing else is changed.
pub record IsDrawn (constants : Constants) (S : State) (who : Who) (length : ℕ) (reply : Reply) (T : State) : Type 0 where
  pub own : ProcessState
  pub there : get S.processes who.pid ≡ Some own
  pub bytes : reply ≡ record (success 0 0) { payload = Content (random_bytes constants.key who.pid own.counts.words length) }
  pub leaves : T ≡ with_own S who.pid (record own { counts = record own.counts { words = own.counts.words + words_of length } })

abbrev pub RandomIsDrawn : Type 0
RandomIsDrawn =
    (constants : Constants) (S : State) (who : Who) (length : ℕ) (reply : Reply) (T : State) → IsValid S
    → IsStep constants S who (RandomGet length) (answer.Reply reply) T → reply.errno ≡ Success → IsDrawn constants S who length reply T

-- Which bytes these are hangs on the key, the process and the place alone: not on the rest of the state, the thread, the moment or the epoch.
abbrev pub RandomHangsOnPlace : Type 0
RandomHangsOnPlace =
    (constants other : Constants) (S U : State) (who by : Who) (own owned : ProcessState) (length : ℕ) → constants.key ≡ other.key → who.pid ≡ by.pid
    → IsSome (get S.tables who.pid) → IsSome (get U.tables by.pid) → get S.processes who.pid ≡ Some own → get U.processes by.pid ≡ Some owned
    → own.counts.words ≡ owned.counts.words → step_answer constants S who (RandomGet length) ≡ step_answer other U by (RandomGet length)

-- A process that has drawn fewer than 2^63 words with these gets them, unless memory runs out.
abbrev pub RandomIsGiven : Type 0
RandomIsGiven =
    (constants : Constants) (S : State) (who : Who) (length : ℕ) (own : ProcessState) → IsSome (get S.tables who.pid) → get S.processes who.pid ≡ Some own
    → own.counts.words + words_of length < 2 ^ 63
    → step_answer constants S who (RandomGet length)
    ≡ answer.Reply (record (success 0 0) { payload = Content (random_bytes constants.key who.pid own.counts.words length) })
