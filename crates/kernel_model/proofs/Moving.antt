-- Threads that are given the locks for which they wait, or are signalled.
--     moved_none, moved_some, moved_set, moved_runs      none comes, and none goes; what is set of the thread is set of what it was; one that runs runs
--     moved_as_may      it waits as it may
--     handed_moves, signalled_moves, unlocked_moves      what is left of the threads of a process
use Rattle.std.proofs.Common.{◌≡◌, ℕ, Option, Some, None, IsSome, is_some, refl, sym, ap, ◌∙◌}
use Rattle.std.specs.Option.{option_map}
use Rattle.std.specs.FinMap.{get}
use Rattle.abi_types.specs.declared.thread.Thread.{Thread}
use Rattle.abi_types.specs.declared.thread.Thread.TheVariants.{Runnable}
use Rattle.kernel_model.specs.Families.Locks.{handed, release_of, signalled, sleeps_at, unlocked_own, waits_for}
use Rattle.kernel_model.specs.State.{ProcessState, Threads}
use Rattle.kernel_model.specs.Threads.{is_given, is_signalled, stays, IsMoved}
use Rattle.kernel_model.proofs.Locks.{Keeps, called_keeps, given_keeps, handed_keeps, keeps_same, released_keeps, signalled_keeps}
use Rattle.kernel_model.proofs.Tests.{none_is_no, not_true, same_some}

-- ---- one thread

pub moved_none : (before after : Option Thread) → IsMoved before after → before ≡ None → after ≡ None
moved_none before after (stays thread) none = none
moved_none before after (is_given lock thread waits) none = absurd (none_is_no thread (sym none))
moved_none before after (is_signalled condvar thread waits) none = absurd (none_is_no thread (sym none))

pub moved_some : (before after : Option Thread) → IsMoved before after → IsSome before → IsSome after
moved_some before after (stays thread) some = some
moved_some before after (is_given lock thread waits) some = refl
moved_some before after (is_signalled condvar thread waits) some = refl

pub moved_set : (new : Thread) (before after : Option Thread) → IsMoved before after
    → option_map (λ (was : Thread). new) after ≡ option_map (λ (was : Thread). new) before
moved_set new before after (stays thread) = refl
moved_set new before after (is_given lock thread waits) = refl
moved_set new before after (is_signalled condvar thread waits) = refl

pub moved_runs : (before after : Option Thread) → IsMoved before after → before ≡ Some Runnable → after ≡ Some Runnable
moved_runs before after (stays thread) runs = runs
moved_runs before after (is_given lock thread waits) runs =
    absurd (not_true (ap (λ x. is_some (waits_for lock x)) (sym (same_some thread Runnable runs)) ∙ waits))
moved_runs before after (is_signalled condvar thread waits) runs =
    absurd (not_true (ap (λ x. is_some (sleeps_at condvar x)) (sym (same_some thread Runnable runs)) ∙ waits))

-- it waits as it may, and until its deadline, where it did
pub moved_as_may : (before after : Option Thread) → IsMoved before after → Keeps before after
moved_as_may before after (stays thread) = keeps_same thread
moved_as_may before after (is_given lock thread waits) = given_keeps lock thread waits
moved_as_may before after (is_signalled condvar thread waits) = called_keeps condvar thread waits

-- ---- the threads of a process

pub handed_moves : (lock : ℕ) (threads : Threads) (t : ℕ) → IsMoved (get threads t) (get (handed lock threads) t)
handed_moves lock threads t = (handed_keeps lock threads t).moved

pub signalled_moves : (n condvar : ℕ) (threads : Threads) (t : ℕ) → IsMoved (get threads t) (get (signalled n condvar threads) t)
signalled_moves n condvar threads t = (signalled_keeps n condvar threads t).moved

pub unlocked_moves : (lock word t : ℕ) (own : ProcessState) (u : ℕ) → IsMoved (get own.threads u) (get (unlocked_own lock word t own).threads u)
unlocked_moves lock word t own u = (released_keeps (release_of t word) lock own.threads u).moved
