-- How a lock is handed on.
--     given_off      a thread that was given a lock waits for none
--     handed_none, handed_readers, handed_writer      the threads, by whom it is handed to
--     next_none, next_readers, next_writer      to whom it is handed
--     few_changed      the threads are few still
use Rattle.std.proofs.Common.{◌≡◌, ℕ, ◌+◌, ◌&&◌, Bool, true, false, Option, Some, None, is_some, refl, ap, ◌∙◌, arith}
use Rattle.std.specs.Prelude.{if◌then◌else◌}
use Rattle.std.specs.FinMap.{get}
use Rattle.abi_structures.specs.declared.events.What.{What}
use Rattle.abi_structures.specs.declared.events.What.TheVariants as what
use Rattle.abi_types.specs.declared.thread.Stage.TheVariants.{Granted}
use Rattle.abi_types.specs.declared.thread.Thread.{Thread}
use Rattle.abi_types.specs.declared.thread.Thread.TheVariants.{Runnable, Waits}
use Rattle.maps.specs.Closure.{changed, len-changed}
use Rattle.kernel_model.specs.Families.Locks.{Next, all_readers, awaits_lock, first_awaited, front, given, handed, handed_word, is_next, is_not_after, is_to_read, low_word, managed_if, next_by, next_of, nobody, one_writer, reads_in, some_waits, waits_for}
use Rattle.kernel_model.specs.State.{Threads}
use Rattle.guest_locks.specs.Handing.{given_at, given_next, reads_before}
use Rattle.guest_locks.specs.Queues.{AreFew}
use Rattle.guest_locks.proofs.Changing.{none_changed, there_before}
use Rattle.guest_locks.proofs.Firsts.{none_in}

-- ---- a thread that was given a lock

awaits_none : (at : ℕ) (awaited : Option What) (since : ℕ) (late : Bool) → awaits_lock at awaited since (Granted late) ≡ None
awaits_none at None since late = refl
awaits_none at (Some (what.Clock clock timeout precision flags)) since late = refl
awaits_none at (Some (what.Condvar condvar condvar_word lock lock_word condvar_scope lock_scope)) since late = refl
awaits_none at (Some (what.FdRead fd)) since late = refl
awaits_none at (Some (what.FdWrite fd)) since late = refl
awaits_none at (Some (what.LockRdlock lock word scope)) since late = refl
awaits_none at (Some (what.LockWrlock lock word scope)) since late = refl
awaits_none at (Some (what.ProcTerminate fd)) since late = refl

and_false : (b : Bool) → (b && false) ≡ false
and_false true = refl
and_false false = refl

pub given_off : (at : ℕ) (limit : Option ℕ) (thread : Thread) → reads_before at limit (given thread) ≡ false
given_off at limit Runnable = refl
given_off at limit (Waits call since until stage) =
    ap (λ moment. is_to_read (first_awaited call) && is_not_after moment limit) (awaits_none at (first_awaited call) since _)
    ∙ and_false (is_to_read (first_awaited call))

-- ---- to whom it is handed

module _ (at : ℕ) (threads : Threads) where
  abbrev pub handed_by : Next → Threads
  handed_by next = changed (λ t thread. if is_next next at threads t thread then given thread else thread) threads

  pub next_none : front at threads ≡ None → next_of at threads ≡ nobody
  next_none none = ap (next_by threads) none

  next_some : (t : ℕ) (reads : Bool) → front at threads ≡ Some t → reads_in (get threads t) ≡ reads → next_of at threads ≡ (if reads then all_readers else one_writer t)
  next_some t reads first is = ap (next_by threads) first ∙ ap (λ (b : Bool). if b then all_readers else one_writer t) is

  pub next_readers : (t : ℕ) → front at threads ≡ Some t → reads_in (get threads t) ≡ true → next_of at threads ≡ all_readers
  next_readers t first is = next_some t true first is

  pub next_writer : (t : ℕ) → front at threads ≡ Some t → reads_in (get threads t) ≡ false → next_of at threads ≡ one_writer t
  next_writer t first is = next_some t false first is

  pub handed_readers : next_of at threads ≡ all_readers → handed at threads ≡ given_next at threads
  handed_readers is = ap handed_by is

  pub handed_writer : (t : ℕ) → next_of at threads ≡ one_writer t → handed at threads ≡ given_at t threads
  handed_writer t is = ap handed_by is

  pub handed_none : front at threads ≡ None → handed at threads ≡ threads
  handed_none none = ap handed_by (next_none none) ∙ none_changed threads

  pub word_none : front at threads ≡ None → handed_word at threads ≡ 0
  word_none none =
      (λ i. low_word (next_none none i) at threads + managed_if (some_waits at (handed_none none i)))
      ∙ ap (λ (o : Option ℕ). low_word nobody at threads + managed_if (is_some o)) (none_in (waits_for at) threads none)

-- ---- the threads are few still

pub few_changed : (f : ℕ → Thread → Thread) (threads : Threads) → AreFew threads → AreFew (changed f threads)
few_changed f threads few = record {
  low = λ t there. few.low t (there_before f threads t there);
  few = (let same = len-changed f threads in let most = few.few in omega (arith, same, most));
}
