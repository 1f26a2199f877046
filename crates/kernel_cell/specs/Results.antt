-- What a call leaves of its process's threads, and the act by which a process is ended from outside.
--     act_of, status_of      an end from outside
--     end_of, after_call, after_wake, if_live, unless_lost      what became of the thread that asked
--     Threads, without_place, HasPlace, IsPlaceFor, with_made      the place for the thread that a call may make
use Rattle.std.specs.Prelude.{◌≡◌, ℕ, Bool, true, false, IsSome}
use Rattle.std.specs.Ordering.{nat_cmp}
use Rattle.std.specs.FinMap.{FinMap, get, insert, remove}
use Rattle.abi_base.specs.declared.signal.Signal.TheVariants.{Xcpu}
use Rattle.abi_types.specs.declared.reply.Answer.{Answer}
use Rattle.abi_types.specs.declared.call.Call.{Call}
use Rattle.abi_types.specs.declared.status.Status.{Status}
use Rattle.abi_types.specs.declared.status.Status.TheVariants.{Killed}
use Rattle.run_types.specs.declared.history.Act.{Act}
use Rattle.run_types.specs.declared.history.Act.TheVariants as act
use Rattle.guest_process.specs.Room.{IsCreate}
use Rattle.kernel_model.specs.Outcome.{is_parked}
use Rattle.kernel_model.specs.Threads.{ends_caller, ends_others, makes_thread}
use Rattle.kernel_cell.specs.declared.results.After.{After}
use Rattle.kernel_cell.specs.declared.results.After.TheVariants as to
use Rattle.kernel_cell.specs.declared.results.Doing.{Doing}
use Rattle.kernel_cell.specs.declared.results.Doing.TheVariants as doing
use Rattle.kernel_cell.specs.declared.results.EndBy.{EndBy}
use Rattle.kernel_cell.specs.declared.results.EndBy.TheVariants as end_by

-- ---- what became of threads

-- the act by which a process is ended from outside, and the status that it has then
abbrev pub act_of : EndBy → Act
act_of (end_by.Trap signal) = act.Trap signal
act_of end_by.Expire = act.Expire

abbrev pub status_of : EndBy → Status
status_of (end_by.Trap signal) = Killed signal
status_of end_by.Expire = Killed Xcpu

-- what became of the thread that made a call, by whether it waits, whether the call made a thread, which has the number next, whether it
-- ended this one, and whether another program began by it
abbrev pub end_of : Bool → Bool → Bool → Bool → ℕ → After
end_of true makes ends begins next = to.Waits
end_of false true ends begins next = to.Starts next
end_of false false true begins next = to.Leaves
end_of false false false true next = to.Begins
end_of false false false false next = to.Runs

abbrev pub after_call : Call → Answer → ℕ → After
after_call call given next = end_of (is_parked given) (makes_thread call given) (ends_caller call given) (ends_others call given) next

-- what became of a thread that was woken, by whether it waits on
abbrev pub after_wake : Bool → After
after_wake true = to.Waits
after_wake false = to.Runs

-- the same, by whether its process is live
abbrev pub if_live : Bool → After → After
if_live true x = x
if_live false x = to.Ended

-- the same, by whether there was memory for the program that began by its call, if one did
abbrev pub unless_lost : Bool → After → After
unless_lost true x = x
unless_lost false x = to.Lost

-- ---- the place for the thread that a call may make

-- what each thread of a process does, by its number
abbrev pub Threads : Type 0
Threads = FinMap nat_cmp Doing

-- the threads without the place at this number, where one was put in
abbrev pub without_place : ℕ → Bool → Threads → Threads
without_place next true threads = remove threads next
without_place next false threads = threads

-- threads' has a place for the thread that the call may make. The threads without it are those before.
pub record HasPlace (call : Call) (next : ℕ) (threads : Threads) (placed : Bool) (threads' : Threads) : Type 0 where
  pub there : IsCreate call → IsSome (get threads' next)
  pub without : without_place next placed threads' ≡ threads

-- a thread that was made has this number and its place
abbrev pub IsPlaceFor : ℕ → Threads → After → Type 0
IsPlaceFor next threads (to.Starts u) = (u ≡ next) × IsSome (get threads next)
IsPlaceFor next threads other = Unit {0}

-- the threads with the one that was made, if one was, which takes turns
abbrev pub with_made : After → Threads → Threads
with_made (to.Starts u) threads = insert threads u doing.Runs
with_made other threads = threads
