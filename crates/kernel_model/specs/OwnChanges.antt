-- What a call does to what its process has of its own beside its descriptors: its threads, and how much it has made so far.
use Rattle.std.specs.Prelude.{◌≡◌, ◌≢◌, ◌⊎◌, ⊤, ℕ, ◌+◌, ◌==◌, ◌&&◌, nat_lt, Bool, true, false, List, [], ◌∷◌, ◌++◌, Option, None, Some, IsSome, if◌then◌else◌}
use Rattle.std.specs.FinMap.{get, insert, remove, retain_keys}
use Rattle.std.specs.Option.{option_map}
use Rattle.abi_base.specs.declared.errno.Errno.{Errno}
use Rattle.abi_base.specs.declared.errno.Errno.TheVariants.{Success}
use Rattle.abi_types.specs.declared.reply.Answer.{Answer}
use Rattle.abi_types.specs.declared.reply.Answer.TheVariants as answer
use Rattle.abi_types.specs.declared.reply.WordWrites.TheVariants.{Two}
use Rattle.abi_types.specs.declared.status.Status.TheVariants.{Live}
use Rattle.abi_types.specs.declared.thread.Thread.TheVariants.{Runnable}
use Rattle.kernel_model.specs.Families.Children.{child_of}
use Rattle.kernel_model.specs.Families.Numbers.{made_more, new_parts}
use Rattle.kernel_model.specs.Families.Locks.{handed_own, signalled_own, unlocked_own}
use Rattle.kernel_model.specs.State.{State, ProcessState, Part, at_proc, at_status}

-- ---- changes of a process

-- the number of its next thread
abbrev pub next_thread : ProcessState → ℕ
next_thread own = own.counts.threads + 1

-- the process with that thread, which runs
abbrev pub with_next_thread : ProcessState → ProcessState
with_next_thread own =
    record own { threads = insert own.threads (next_thread own) Runnable; counts = record own.counts { threads = next_thread own } }

-- the process without that thread
abbrev pub without_thread : ℕ → ProcessState → ProcessState
without_thread t own = record own { threads = remove own.threads t }

-- the process once it has drawn so many random words more
abbrev pub drawn_more : ℕ → ProcessState → ProcessState
drawn_more words own = record own { counts = record own.counts { words = own.counts.words + words } }

-- the process once it has counted one child more
abbrev pub with_next_child : ProcessState → ProcessState
with_next_child own = record own { counts = record own.counts { forks = own.counts.forks + 1 } }

-- The process as another program begins in it, by its thread t: no other thread is left, and so many random words more are drawn.
abbrev pub begun_anew : ℕ → ℕ → ProcessState → ProcessState
begun_anew words t own = record {
  threads = retain_keys own.threads (λ k. k == t);
  counts = record own.counts { words = own.counts.words + words };
  depth = own.depth;
}

-- ---- what a call does

-- What a call does to its process where it succeeds: it keeps all, makes a thread, lets go of the lock at an address with this word and ends
-- the thread that made the call, draws so many random words, makes a child of the process, or lets another program begin in it, which draws so
-- many words; it lets go of the lock at an address with this word, or it signals so many of the threads that wait at the condition variable at
-- an address. And where its thread begins to wait at a condition variable, it hands on the lock at an address. Each may number objects too.
pub data OwnChange : Type 0 where
  keeps_own : OwnChange
  makes_one : OwnChange
  ends_one : ℕ → ℕ → OwnChange
  draws_words : ℕ → OwnChange
  forks_one : OwnChange
  begins_anew : ℕ → OwnChange
  lets_lock_go : ℕ → ℕ → OwnChange
  signals_some : ℕ → ℕ → OwnChange
  hands_lock_on : ℕ → OwnChange

-- whether the error is that there is none
abbrev pub is_success : Errno → Bool
is_success Success = true
is_success _ = false

-- whether the call is done: it has a reply, and that is a success
abbrev pub is_done : Answer → Bool
is_done (answer.Parked writes) = false
is_done (answer.Reply reply) = is_success reply.errno

-- whether a thread begins to wait at a condition variable: its word and that of the lock are written
abbrev pub begins_to_sleep : Answer → Bool
begins_to_sleep (answer.Parked (Two first second)) = true
begins_to_sleep (answer.Parked writes) = false
begins_to_sleep (answer.Reply reply) = false

-- the process after the change by its thread t, where the call was answered so
abbrev pub own_by : OwnChange → ℕ → Answer → ProcessState → ProcessState
own_by keeps_own t given own = own
own_by makes_one t given own = if is_done given then with_next_thread own else own
own_by (ends_one lock word) t given own = if is_done given then without_thread t (unlocked_own lock word t own) else own
own_by (draws_words words) t given own = if is_done given then drawn_more words own else own
own_by forks_one t given own = if is_done given then with_next_child own else own
own_by (begins_anew words) t given own = if is_done given then begun_anew words t own else own
own_by (lets_lock_go lock word) t given own = if is_done given then unlocked_own lock word t own else own
own_by (signals_some condvar n) t given own = if is_done given then signalled_own condvar n own else own
own_by (hands_lock_on lock) t given own = if begins_to_sleep given then handed_own lock own else own

-- the process has changed so, and may have made objects
abbrev pub IsChangedBy : (ProcessState → ProcessState) → Option ProcessState → Option ProcessState → Type 0
IsChangedBy f before after = (objects : ℕ) × (after ≡ option_map (λ own. made_more objects (f own)) before)

-- the process is there and has the thread t, and no thread has the number of its next one
abbrev pub HasNextFree : ℕ → Option ProcessState → Type 0
HasNextFree t None = ⊥
HasNextFree t (Some own) = IsSome (get own.threads t) × (get own.threads (next_thread own) ≡ None)

-- The process before the call allows what a call of its thread t does that was answered so: one that made a thread was of a thread of the
-- process, and none had the new one's number; one that drew words or made a child was of a process.
abbrev pub AllowsChange : OwnChange → ℕ → Answer → Option ProcessState → Type 0
AllowsChange keeps_own t given before = ⊤
AllowsChange makes_one t given before = is_done given ≡ true → HasNextFree t before
AllowsChange (ends_one lock word) t given before = ⊤
AllowsChange (draws_words words) t given before = is_done given ≡ true → IsSome before
AllowsChange forks_one t given before = is_done given ≡ true → IsSome before
AllowsChange (begins_anew words) t given before = is_done given ≡ true → IsSome before
AllowsChange (lets_lock_go lock word) t given before = ⊤
AllowsChange (signals_some condvar n) t given before = ⊤
AllowsChange (hands_lock_on lock) t given before = ⊤

-- after a call of the thread t of process p that was answered so the process has changed as the call does, or has ended with it
abbrev pub LeavesOwn : OwnChange → ℕ → ℕ → Answer → State → State → Type 0
LeavesOwn change p t given S T =
    IsChangedBy (own_by change t given) (get S.processes p) (get T.processes p)
    ⊎ ((get T.statuses p ≢ Some Live) × (get T.processes p ≡ None))

-- ---- children

-- whether the process may have one child more: its depth is less than 4, and it has counted fewer than 254
abbrev pub may_bear : ProcessState → Bool
may_bear own = nat_lt own.depth 4 && nat_lt own.counts.forks 254

-- the number of the next child of process p, if it may have one
abbrev pub next_child : ℕ → Option ProcessState → Option ℕ
next_child p None = None
next_child p (Some own) = if may_bear own then Some (child_of p own.depth (own.counts.forks + 1)) else None

-- the number of the child that a call may make which does this
abbrev pub born_of : OwnChange → ℕ → Option ProcessState → Option ℕ
born_of forks_one p own = next_child p own
born_of _ p own = None

-- what the child has of its own, and its status
abbrev pub child_parts : Option ℕ → List Part
child_parts None = []
child_parts (Some q) = at_proc q ∷ at_status q ∷ []

-- the parts that a call of process p may make which does this and makes so many objects
abbrev pub made_parts : OwnChange → ℕ → ℕ → Option ProcessState → List Part
made_parts change p count own = child_parts (born_of change p own) ++ new_parts p count own
