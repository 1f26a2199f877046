-- What thread_create, thread_yield, thread_exit and lock_unlock come to, in other words than their meanings: a line for each case, with all of its
-- conditions.
use Rattle.std.specs.Prelude.{◌≡◌, ◌≢◌, ◌↔◌, ◌⊎◌, ℕ, ◌+◌, ◌-◌, ◌^◌, ◌<◌, ◌≤◌}
use Rattle.std.specs.FinMap.{len}
use Rattle.abi_base.specs.declared.errno.Errno.TheVariants.{Again, Perm}
use Rattle.abi_structures.specs.declared.structures.ThreadAttr.{ThreadAttr}
use Rattle.abi_types.specs.declared.call.Call.TheVariants.{LockUnlock, ThreadCreate, ThreadExit, ThreadYield}
use Rattle.abi_types.specs.declared.constants.Constants.{Constants}
use Rattle.abi_types.specs.declared.reply.Answer.{Answer}
use Rattle.abi_types.specs.declared.reply.Answer.TheVariants as answer
use Rattle.abi_types.specs.declared.who.Who.{Who}
use Rattle.kernel_model.specs.Families.Locks.{handed_word}
use Rattle.kernel_model.specs.LockCallLaws.{IsFree, IsHeldToRead, IsHeldToWrite, writes_word}
use Rattle.kernel_model.specs.Reply.{refused, success}
use Rattle.kernel_model.specs.State.{ProcessState, State, Table, Threads}
use Rattle.kernel_model.specs.Step.{step_answer}
use Rattle.process_errors.specs.Verdicts.{IsUnrefused}

-- ---- thread_create

-- What a thread_create comes to.
pub data CreateComesTo (own : ProcessState) : Answer → Type 0 where
  -- AGAIN: 64 threads of the process live, or it has numbered so many that the words of locks have no room for the next number, as in no run
  too_many : (64 ≤ len own.threads) ⊎ (2 ^ 30 - 1 ≤ own.counts.threads + 1) → CreateComesTo own (answer.Reply (refused Again))
  -- else the thread is made, and its number is the next one
  made : len own.threads < 64 → own.counts.threads + 1 < 2 ^ 30 - 1 → CreateComesTo own (answer.Reply (success (own.counts.threads + 1) 0))

abbrev pub ThreadCreateIsListed : Type 0
ThreadCreateIsListed =
    (constants : Constants) (S : State) (who : Who) (attributes : ThreadAttr) (table : Table) (own : ProcessState) (given : Answer)
    → IsUnrefused S who (ThreadCreate attributes) table own
    → CreateComesTo own given ↔ (given ≡ step_answer constants S who (ThreadCreate attributes))

-- ---- thread_yield

-- It is always done.
abbrev pub ThreadYieldIsListed : Type 0
ThreadYieldIsListed =
    (constants : Constants) (S : State) (who : Who) (table : Table) (own : ProcessState) → IsUnrefused S who ThreadYield table own
    → step_answer constants S who ThreadYield ≡ answer.Reply (success 0 0)

-- ---- lock_unlock, and thread_exit, which lets a lock go first

-- the thread doesn't have the lock with this word: nobody has it, or another thread to write
abbrev pub IsNoHolder : ℕ → ℕ → Type 0
IsNoHolder t word = IsFree word ⊎ ((owner : ℕ) × (owner ≢ t) × IsHeldToWrite owner word)

-- What it comes to that thread t of these lets go of the lock at this address, whose word is this.
pub data LetsGo (t lock word : ℕ) (threads : Threads) : Answer → Type 0 where
  -- PERM: it doesn't have the lock
  not_had : IsNoHolder t word → LetsGo t lock word threads (answer.Reply (refused Perm))
  -- of several that read one less does
  left : (readers : ℕ) → IsHeldToRead readers word → 1 < readers → LetsGo t lock word threads (writes_word lock (word - 1))
  -- the last one hands the lock on
  handed : IsHeldToWrite t word ⊎ IsHeldToRead 1 word → LetsGo t lock word threads (writes_word lock (handed_word lock threads))

pub record LockIsLetGoAsListed : Type 0 where
  pub unlock : (constants : Constants) (S : State) (who : Who) (lock word scope : ℕ) (table : Table) (own : ProcessState) (given : Answer)
      → IsUnrefused S who (LockUnlock lock word scope) table own
      → LetsGo who.tid lock word own.threads given ↔ (given ≡ step_answer constants S who (LockUnlock lock word scope))
  pub exit : (constants : Constants) (S : State) (who : Who) (lock word scope : ℕ) (table : Table) (own : ProcessState) (given : Answer)
      → IsUnrefused S who (ThreadExit lock word scope) table own
      → LetsGo who.tid lock word own.threads given ↔ (given ≡ step_answer constants S who (ThreadExit lock word scope))
