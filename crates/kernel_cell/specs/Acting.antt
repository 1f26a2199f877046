-- What comes of what a thread asks the locked kernel for.
--     GoesOn, WaitsOn, HasLeft, HasStarted, KeepsBut, IsAlone, IsDead      what became of threads
--     Became, MayCome      what became of the thread that asked, and what may
--     Entered, IsCame      the entry that came of it, or why none came
--     IsActedOn, IsForkedOn, IsIdledOn      what comes of a call, a wake or an end, of a proc_fork, and of time, by the whole history
--     Seen, IsActed, IsForked      the same by what a pass has seen of it
--     Looked      a look
use Rattle.std.specs.Prelude.{◌≡◌, ◌≢◌, ◌↔◌, ℕ, Bool, true, false, List, [], ◌∷◌, ◌++◌, Option, None, Some, IsTrue}
use Rattle.abi_types.specs.declared.call.Call.{Call}
use Rattle.run_types.specs.declared.history.Act.{Act}
use Rattle.run_types.specs.declared.history.Act.TheVariants as act
use Rattle.run_types.specs.declared.history.Entry.{Entry}
use Rattle.run_types.specs.declared.launch.Launch.{Launch}
use Rattle.kernel_model.specs.State.{thread_of}
use Rattle.kernel_model.specs.Threads.{child_told, ends_others, next_number, IsMoved}
use Rattle.kernel_model.specs.Wakes.{is_ready, MayJump}
use Rattle.run_model.specs.Ends.{Stalled}
use Rattle.run_model.specs.Legal.{Fits, IsRunnable}
use Rattle.run_model.specs.Own.{own, IsLiveIn}
use Rattle.run_model.specs.World.{Guest, world, guest_of}
use Rattle.shared_history.specs.Entries.{head_of, entry_of, idled}
use Rattle.shared_history.specs.Passes.{Passing, IsSeen, Later}
use Rattle.kernel_cell.specs.Asking.{Answers, IsWake, Waiting}
use Rattle.kernel_cell.specs.Results.{with_made}
use Rattle.kernel_cell.specs.declared.results.After.{After}
use Rattle.kernel_cell.specs.declared.results.After.TheVariants as to
use Rattle.kernel_cell.specs.declared.results.Asked.{Asked}
use Rattle.kernel_cell.specs.declared.results.Asked.TheVariants as asked
use Rattle.kernel_cell.specs.declared.results.Body.{Body}
use Rattle.kernel_cell.specs.declared.results.Came.{Came}
use Rattle.kernel_cell.specs.declared.results.Came.TheVariants as came
use Rattle.kernel_cell.specs.declared.results.EndBy.{EndBy}
use Rattle.kernel_cell.specs.declared.results.Idled.{Idled}
use Rattle.kernel_cell.specs.declared.results.Idled.TheVariants as idle

-- ---- what became of threads

-- each thread of the process, but for the one with this number, is what it was before, or waits as it did and was given a lock or signalled; and
-- there is no other
abbrev pub KeepsBut : Launch → List Entry → List Entry → ℕ → ℕ → Type 0
KeepsBut launch before after p t =
    (u : ℕ) → u ≢ t → IsMoved (thread_of (world launch before).state p u) (thread_of (world launch after).state p u)

-- the process has one thread more, with the number that was the next, and it takes its turns
pub record HasStarted (launch : Launch) (before after : List Entry) (p u : ℕ) : Type 0 where
  pub absent : thread_of (world launch before).state p u ≡ None
  pub numbered : u ≡ next_number (world launch before).state p
  pub runs : IsRunnable (world launch after).state p u
  pub others : KeepsBut launch before after p u

-- the process has no other thread than the one with this number
abbrev pub IsAlone : Launch → List Entry → ℕ → ℕ → Type 0
IsAlone launch history p t = (u : ℕ) → u ≢ t → thread_of (world launch history).state p u ≡ None

-- the thread takes its turns, and this is its process's guest
pub record GoesOn (launch : Launch) (history : List Entry) (p t : ℕ) (guest : Guest) : Type 0 where
  pub live : IsLiveIn (world launch history) p
  pub runnable : IsRunnable (world launch history).state p t
  pub guest_is : guest ≡ guest_of (world launch history) p

-- the thread waits in a call, and this is its process's guest
pub record WaitsOn (launch : Launch) (history : List Entry) (p t : ℕ) (guest : Guest) : Type 0 where
  pub live : IsLiveIn (world launch history) p
  pub waits : Waiting (world launch history) p t
  pub guest_is : guest ≡ guest_of (world launch history) p

-- the thread is there no more, its process lives on, and this is the process's guest
pub record HasLeft (launch : Launch) (history : List Entry) (p t : ℕ) (guest : Guest) : Type 0 where
  pub live : IsLiveIn (world launch history) p
  pub gone : thread_of (world launch history).state p t ≡ None
  pub guest_is : guest ≡ guest_of (world launch history) p

-- The child was made by the last entry of the history, by a thread with this number, which it has alone, and which takes its turns. No entry is
-- of the child yet, and this is its guest.
pub record IsChild (launch : Launch) (history : List Entry) (t child : ℕ) (guest : Guest) : Type 0 where
  pub seen : IsSeen launch child history
  pub none : own child history ≡ []
  pub goes_on : GoesOn launch history child t guest
  pub alone : IsAlone launch history child t

abbrev pub IsDead : Launch → List Entry → ℕ → Type 0
IsDead launch history p = ¬ IsLiveIn (world launch history) p

-- the process is live, and its thread isn't ready to go on
abbrev pub IsNotReady : Launch → List Entry → ℕ → ℕ → Type 0
IsNotReady launch history p t =
    IsLiveIn (world launch history) p × (is_ready launch.constants (world launch history).state p t ≡ false)

-- ---- what became of the thread that asked

-- the act is a call by which the other threads of the process ended
abbrev pub EndsOthers : Act → Type 0
EndsOthers (act.Call call given) = ends_others call given ≡ true
EndsOthers a = ⊥

-- the process that the act made
abbrev pub child_of : Act → Option ℕ
child_of (act.Call call given) = child_told call given
child_of a = None

-- the act of thread t led from one history to the other, and the process's guest is this
abbrev pub Became : Launch → List Entry → ℕ → ℕ → List Entry → Guest → Act → After → Type 0
Became launch log p t after guest a to.Runs = GoesOn launch after p t guest × KeepsBut launch log after p t
Became launch log p t after guest a (to.Starts u) = GoesOn launch after p t guest × HasStarted launch log after p u
Became launch log p t after guest a to.Waits = WaitsOn launch after p t guest × KeepsBut launch log after p t
Became launch log p t after guest a to.Leaves = HasLeft launch after p t guest × KeepsBut launch log after p t
Became launch log p t after guest a to.Begins = GoesOn launch after p t guest × IsAlone launch after p t
Became launch log p t after guest a to.Lost = EndsOthers a
Became launch log p t after guest a to.Ended = IsDead launch after p

-- that may become of a thread that asks so: one that wakes makes none, doesn't leave, and begins nothing; and an end ends its process
abbrev pub MayCome : Asked → After → Type 0
MayCome (asked.Calls call) x = Unit {0}
MayCome asked.Wakes to.Runs = Unit {0}
MayCome asked.Wakes to.Waits = Unit {0}
MayCome asked.Wakes to.Ended = Unit {0}
MayCome asked.Wakes x = ⊥
MayCome (asked.Ends how) to.Ended = Unit {0}
MayCome (asked.Ends how) x = ⊥

-- a proc_fork made this child, or none, and its thread goes on. The child's number stands in place of its pass.
abbrev pub HasForked : Launch → List Entry → ℕ → ℕ → List Entry → Guest → Act → Option (ℕ × Guest) → Type 0
HasForked launch log p t after guest a None = GoesOn launch after p t guest × KeepsBut launch log after p t × (child_of a ≡ None)
HasForked launch log p t after guest a (Some child) =
    GoesOn launch after p t guest × KeepsBut launch log after p t × (child_of a ≡ Some child.0) × IsChild launch after t child.0 child.1

-- ---- what came of what it asked for

-- the entry of an act of thread t came, after these turns of process p, which answers what was asked for
pub record Entered (launch : Launch) (log : List Entry) (p t : ℕ) (turns : List ℕ) (what : Asked) (after : List Entry) : Type 0 where
  pub act : Act
  pub answers : Answers what act
  pub moment : ℕ
  pub fits : Fits (world launch log) (entry_of (head_of moment p t turns) act)
  pub last : after ≡ log ++ entry_of (head_of moment p t turns) act ∷ []

-- After this history that one came: an entry, by which something became of the thread. Or none came: its thread waits and isn't ready, or its
-- process had ended before, or memory ran out.
abbrev pub IsCame : {T : Type 0} → Launch → List Entry → ℕ → ℕ → List ℕ → Asked → (Act → T → Type 0) → List Entry → Came T → Type 0
IsCame launch log p t turns what became after (came.Done x) =
    (entered : Entered launch log p t turns what after) × became entered.act x
IsCame launch log p t turns what became after came.NotReady = (after ≡ log) × IsNotReady launch log p t × IsWake what
IsCame launch log p t turns what became after came.Gone = (after ≡ log) × IsDead launch log p
IsCame launch log p t turns what became after came.NoMemory = (after ≡ log) × IsLiveIn (world launch log) p

-- Where an entry came no turn waits for its entry any more, and a thread that was made has its place. Where none came nothing changed.
abbrev pub KeepsBody : Body → Body → Came After → Type 0
KeepsBody body body' (came.Done x) = (body'.turns ≡ []) × (body'.threads ≡ with_made x body.threads)
KeepsBody body body' result = body' ≡ body

-- an end from outside changes nothing of the guest
abbrev pub KeepsGuest : Asked → Guest → Guest → Type 0
KeepsGuest (asked.Ends how) guest guest' = guest' ≡ guest
KeepsGuest what guest guest' = Unit {0}

-- that came of a call that is no proc_fork, of a wake or of an end from outside
pub record IsActedOn (launch : Launch) (log : List Entry) (p t : ℕ) (body : Body) (what : Asked) (body' : Body) (after : List Entry) (result : Came After)
    : Type 0 where
  pub came : IsCame launch log p t body.turns what (λ a x. MayCome what x × Became launch log p t after body'.guest a x) after result
  pub kept : KeepsBody body body' result
  pub unanswered : KeepsGuest what body.guest body'.guest

-- the thread goes on, if an entry came
abbrev pub going_on : {T : Type 0} → Came T → Came After
going_on (came.Done x) = came.Done to.Runs
going_on came.NotReady = came.NotReady
going_on came.Gone = came.Gone
going_on came.NoMemory = came.NoMemory

-- that came of a proc_fork
pub record IsForkedOn (launch : Launch) (log : List Entry) (p t : ℕ) (body : Body) (call : Call) (body' : Body) (after : List Entry)
    (result : Came (Option (ℕ × Guest))) : Type 0 where
  pub came : IsCame launch log p t body.turns (asked.Calls call) (HasForked launch log p t after body'.guest) after result
  pub kept : KeepsBody body body' (going_on result)

-- the end of the process came
abbrev pub HasEnded : Launch → List Entry → ℕ → ℕ → List ℕ → EndBy → List Entry → Type 0
HasEnded launch log p t turns how after = Entered launch log p t turns (asked.Ends how) after × IsDead launch after p

-- ---- what a pass has seen of it

-- Something happened, by which a history became another one: to that which the pass had seen entries of other processes alone had come before.
-- The pass has seen it.
pub record Seen (launch : Launch) (v w : Passing) (happened : List Entry → List Entry → Type 0) : Type 0 where
  pub pid : w.pid ≡ v.pid
  pub seen : IsSeen launch v.pid w.seen
  pub log : List Entry
  pub later : Later v.pid v.seen log
  pub happens : happened log w.seen

abbrev pub IsActed : Launch → Passing → ℕ → Body → Asked → Body → Passing → Came After → Type 0
IsActed launch v t body what body' w result = Seen launch v w (λ log after. IsActedOn launch log v.pid t body what body' after result)

-- the number of the child in place of its pass
abbrev pub by_number : Came (Option (Passing × Guest)) → Came (Option (ℕ × Guest))
by_number (came.Done (Some child)) = came.Done (Some (child.0.pid, child.1))
by_number (came.Done None) = came.Done None
by_number came.NotReady = came.NotReady
by_number came.Gone = came.Gone
by_number came.NoMemory = came.NoMemory

-- the child's pass, if there is one, has seen this history
abbrev pub HasSeen : List Entry → Came (Option (Passing × Guest)) → Type 0
HasSeen seen (came.Done (Some child)) = child.0.seen ≡ seen
HasSeen seen other = Unit {0}

abbrev pub IsForked : Launch → Passing → ℕ → Body → Call → Body → Passing → Came (Option (Passing × Guest)) → Type 0
IsForked launch v t body call body' w result =
    Seen launch v w (λ log after. IsForkedOn launch log v.pid t body call body' after (by_number result) × HasSeen after result)

-- Nothing happened, and the pass has seen the history as it is: whether the process is live in it.
pub record Looked (launch : Launch) (v w : Passing) (lives : Bool) : Type 0 where
  pub pid : w.pid ≡ v.pid
  pub seen : IsSeen launch v.pid w.seen
  pub later : Later v.pid v.seen w.seen
  pub live : IsTrue lives ↔ IsLiveIn (world launch w.seen) v.pid

-- ---- time

-- the entry of an idle jump came
pub record AppendsJump (launch : Launch) (log after : List Entry) : Type 0 where
  pub moment : ℕ
  pub fits : Fits (world launch log) (idled moment)
  pub last : after ≡ log ++ idled moment ∷ []

-- the history lets time jump
abbrev pub MayJumpAfter : Launch → List Entry → Type 0
MayJumpAfter launch log = MayJump launch.constants (world launch log).state

abbrev pub IsIdledOn : Launch → List Entry → List Entry → Idled → Type 0
IsIdledOn launch log after idle.Jumped = AppendsJump launch log after
IsIdledOn launch log after idle.Busy = (after ≡ log) × ¬ MayJumpAfter launch log × ¬ Stalled launch log
IsIdledOn launch log after idle.Over = (after ≡ log) × ((p : ℕ) → ¬ IsLiveIn (world launch log) p)
IsIdledOn launch log after idle.Stalled = (after ≡ log) × Stalled launch log
IsIdledOn launch log after idle.NoMemory = after ≡ log
