-- What holds of threads, random bytes and clocks in legal histories: the statements that are the contracts of the functions of
-- src/thread_laws.rt.
use Rattle.std.specs.Prelude.{◌≡◌, ◌≢◌, ◌⊎◌, ℕ, ◌+◌, ◌-◌, ◌^◌, ◌<◌, ◌≤◌, false, Contains, List, ◌∷◌, ◌++◌, None, Some, IsSome}
use Rattle.std.specs.FinMap.{get}
use Rattle.clock_random.specs.Random.{random_bytes, words_of}
use Rattle.abi_base.specs.declared.errno.Errno.TheVariants.{Success}
use Rattle.abi_base.specs.declared.signal.Signal.TheVariants.{Kill}
use Rattle.abi_structures.specs.declared.structures.ThreadAttr.{ThreadAttr}
use Rattle.abi_types.specs.declared.call.Call.{Call}
use Rattle.abi_types.specs.declared.call.Call.TheVariants.{ClockTimeGet, ProcExec, RandomGet, ThreadCreate, ThreadExit}
use Rattle.abi_types.specs.declared.reply.Answer.TheVariants as answer
use Rattle.abi_types.specs.declared.reply.Payload.TheVariants.{Content}
use Rattle.abi_types.specs.declared.reply.Reply.{Reply}
use Rattle.abi_types.specs.declared.status.Status.TheVariants.{Killed}
use Rattle.abi_types.specs.declared.thread.Thread.TheVariants.{Runnable}
use Rattle.run_types.specs.declared.history.Act.TheVariants as act
use Rattle.run_types.specs.declared.history.Entry.{Entry}
use Rattle.run_types.specs.declared.launch.Launch.{Launch}
use Rattle.tree_model.specs.Grants.{MayBegin}
use Rattle.call_codec.specs.Bounded.{IsBounded}
use Rattle.call_codec.specs.Put.{answered_of}
use Rattle.call_codec.specs.Start.{start_pages, thread_registers}
use Rattle.kernel_model.specs.State.{ProcessState, counts_in, thread_of}
use Rattle.kernel_model.specs.Valid.{IsValid}
use Rattle.run_model.specs.Legal.{Fits, Legal}
use Rattle.run_model.specs.Own.{born, is_own, IsLiveIn}
use Rattle.run_model.specs.OwnLaws.{HasOneThread}
use Rattle.run_model.specs.World.{World, apply, begun_guest, guest_of, registers_of, start_world, turned, world}

-- an entry of the process p is a call that has succeeded, with this reply
pub record Succeeds (e : Entry) (p : ℕ) (call : Call) (reply : Reply) : Type 0 where
  pub process : e.pid ≡ p
  pub act : e.act ≡ act.Call call (answer.Reply reply)
  pub done : reply.errno ≡ Success

-- ---- threads

-- an entry of the process p makes the thread t, which begins with these attributes
abbrev pub Makes : Entry → ℕ → ℕ → ThreadAttr → Type 0
Makes e p t attributes = (reply : Reply) × Succeeds e p (ThreadCreate attributes) reply × (reply.r1 ≡ t)

-- an entry of the process p ends the thread t that does it
abbrev pub Ends : Entry → ℕ → ℕ → Type 0
Ends e p t =
    (lock : ℕ) × (word : ℕ) × (scope : ℕ) × (reply : Reply) × Succeeds e p (ThreadExit lock word scope) reply × (e.tid ≡ t)

-- A thread that is made was not there before. It runs, with the registers that its maker asked for, and the maker goes on with its own.
pub record HasBegun (w : World) (e : Entry) (p t : ℕ) (attributes : ThreadAttr) : Type 0 where
  pub absent : thread_of w.state p t ≡ None
  pub runs : thread_of (apply w e).state p t ≡ Some Runnable
  pub registers : get (guest_of (apply w e) p).regs t ≡ Some (thread_registers attributes t)
  pub other : t ≢ e.tid
  pub maker : (reply : Reply) → Succeeds e p (ThreadCreate attributes) reply
      → registers_of (guest_of (apply w e) p) e.tid
      ≡ answered_of (registers_of (guest_of (turned w p e.turns) p) e.tid) (ThreadCreate attributes) (answer.Reply reply)

abbrev pub NewThreadBegins : Type 0
NewThreadBegins =
    (w : World) (e : Entry) (p t : ℕ) (attributes : ThreadAttr) → IsValid w.state → Fits w e → Makes e p t attributes → HasBegun w e p t attributes

-- A thread that has ended is there no more, and has no registers.
abbrev pub EndedThreadIsGone : Type 0
EndedThreadIsGone =
    (w : World) (e : Entry) (p t : ℕ) → IsValid w.state → Fits w e → Ends e p t
    → (thread_of (apply w e).state p t ≡ None) × (get (guest_of (apply w e) p).regs t ≡ None)

-- Of two threads that a process makes the later one has the greater number.
abbrev pub ThreadNumbersGoUp : Type 0
ThreadNumbersGoUp =
    (launch : Launch) (front : List Entry) (e : Entry) (middle : List Entry) (f : Entry) (rest : List Entry) (p t u : ℕ) (first second : ThreadAttr)
    → MayBegin launch.tree launch.grants → Legal launch (front ++ e ∷ (middle ++ f ∷ rest)) → Makes e p t first → Makes f p u second → t < u

-- A thread that was there and is there no more never comes back: no other gets its number.
abbrev pub GoneStaysGone : Type 0
GoneStaysGone =
    (launch : Launch) (front middle rest : List Entry) (p t : ℕ) → MayBegin launch.tree launch.grants → Legal launch (front ++ (middle ++ rest))
    → IsSome (thread_of (world launch front).state p t) → thread_of (world launch (front ++ middle)).state p t ≡ None
    → thread_of (world launch (front ++ (middle ++ rest))).state p t ≡ None

-- An entry leaves the threads of a process that did not do it, and that it doesn't make, as they were: it makes and ends none, unless the
-- process is killed and all end.
abbrev pub OthersKeepThreads : Type 0
OthersKeepThreads =
    (w : World) (e : Entry) (q : ℕ) → IsValid w.state → Fits w e → is_own q e ≡ false → ¬ Contains (born e.act) q
    → ((t : ℕ) → thread_of (apply w e).state q t ≡ thread_of w.state q t)
    ⊎ ((get (apply w e).state.statuses q ≡ Some (Killed Kill)) × ((t : ℕ) → thread_of (apply w e).state q t ≡ None))

-- ---- programs

-- A process that lives on in which another program has begun has one thread, that which asked for the program and which runs, and the program's
-- memory and registers.
pub record HasBegunProgram (w : World) (e : Entry) (bytes : List ℕ) (reply : Reply) : Type 0 where
  pub thread : HasOneThread (apply w e) e.pid e.tid
  pub guest : guest_of (apply w e) e.pid ≡ begun_guest (guest_of (turned w e.pid e.turns) e.pid) e.pid e.tid bytes reply.payload

abbrev pub ProgramBegins : Type 0
ProgramBegins =
    (w : World) (e : Entry) (fd : ℕ) (bytes fds : List ℕ) (reply : Reply) → Fits w e → Succeeds e e.pid (ProcExec fd bytes fds) reply
    → IsLiveIn (apply w e) e.pid → HasBegunProgram w e bytes reply

-- ---- random bytes

-- how many random words a process that lives has drawn: the place in its stream that it has come to
abbrev pub place_of : World → ℕ → ℕ
place_of w p = (counts_in (get w.state.processes p)).words

-- an entry of the process p draws so many random bytes
abbrev pub Draws : Entry → ℕ → ℕ → Reply → Type 0
Draws e p length reply = Succeeds e p (RandomGet length) reply

-- They are those of the process's stream from its place on, by the run's key.
abbrev pub DrawIsOwn : Type 0
DrawIsOwn =
    (w : World) (e : Entry) (p length : ℕ) (reply : Reply) → IsValid w.state → Fits w e → Draws e p length reply
    → reply.payload ≡ Content (random_bytes w.constants.key p (place_of w p) length)

-- Two draws of a process have no word in common: the later one begins behind the earlier one.
abbrev pub DrawsAreApart : Type 0
DrawsAreApart =
    (launch : Launch) (front : List Entry) (e : Entry) (middle : List Entry) (f : Entry) (rest : List Entry) (p length size : ℕ) (reply other : Reply)
    → MayBegin launch.tree launch.grants → Legal launch (front ++ e ∷ (middle ++ f ∷ rest)) → Draws e p length reply → Draws f p size other
    → place_of (world launch front) p + words_of length ≤ place_of (world launch (front ++ e ∷ middle)) p

-- Process 0 begins with a canary, which is drawn first: it is the bytes from place 0 on, and while the process lives each later draw begins
-- behind it.
pub record CanaryIsApart : Type 0 where
  pub memory : (launch : Launch)
      → (guest_of (start_world launch) 0).memory ≡ start_pages launch.elf launch.argdata (random_bytes launch.constants.key 0 0 64) 0 1
  pub behind : (launch : Launch) (history : List Entry) → MayBegin launch.tree launch.grants → Legal launch history → IsLiveIn (world launch history) 0
      → words_of 64 ≤ place_of (world launch history) 0

-- ---- bounds

-- In the world of a legal history of a launch that can be started each process has a number for one more thread, and room for a draw of at most
-- 65,536 bytes: the answer AGAIN for lack of these never comes.
abbrev pub NumbersSuffice : Type 0
NumbersSuffice =
    (launch : Launch) (history : List Entry) (p length : ℕ) (own : ProcessState) → IsBounded launch → Legal launch history
    → get (world launch history).state.processes p ≡ Some own → length ≤ 65536
    → (own.counts.threads + 1 < 2 ^ 30 - 1) × (own.counts.words + words_of length < 2 ^ 63)

-- ---- clocks

-- Of two times of one clock the later one is greater, whichever processes ask.
abbrev pub ClocksGoOn : Type 0
ClocksGoOn =
    (launch : Launch) (front : List Entry) (e : Entry) (middle : List Entry) (f : Entry) (rest : List Entry) (p q clock precision finer : ℕ)
    (reply other : Reply) → Legal launch (front ++ e ∷ (middle ++ f ∷ rest)) → Succeeds e p (ClockTimeGet clock precision) reply
    → Succeeds f q (ClockTimeGet clock finer) other → reply.r1 < other.r1
