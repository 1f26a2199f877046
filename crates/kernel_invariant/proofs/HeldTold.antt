-- The entries of waiting threads as locks are handed on and condition variables signalled.
--     told_is_held      those that are told of are left to be tested, and who isn't is as it was
--     told_by      the same, by what a process's calls on locks say
--     unlock_keeps, signal_keeps, wait_keeps      what the calls leave of each thread
use Rattle.std.proofs.Common.{◌≡◌, ℕ, ◌^◌, ◌<◌, Bool, true, false, cond, Option, None, Some, IsSome, is_some, inl, inr, refl, sym, ap, subst, ◌∙◌}
use Rattle.std.proofs.lemmas.Bool.Decides.{eqb_tells}
use Rattle.std.specs.Option.{option_map}
use Rattle.std.specs.Ordering.{nat_cmp}
use Rattle.std.specs.FinMap.{FinMap, get}
use Rattle.abi_structures.specs.declared.events.What.{What}
use Rattle.abi_types.specs.declared.thread.Stage.{Stage}
use Rattle.abi_types.specs.declared.thread.Stage.TheVariants.{Granted, Signalled}
use Rattle.abi_types.specs.declared.thread.Thread.{Thread}
use Rattle.abi_types.specs.declared.thread.Thread.TheVariants.{Runnable, Waits}
use Rattle.guest_locks.specs.Told.{Told, TellsOf, has}
use Rattle.kernel_model.specs.Families.LockCalls.{signal_in, unlock_in, waited_outcome}
use Rattle.kernel_model.specs.Families.Locks.{called, given, handed_own, is_late, release_of, signalled_own, unlocked_own}
use Rattle.kernel_model.specs.State.{ProcessState, State, thread_in, thread_of}
use Rattle.kernel_model.specs.Threads as model
use Rattle.kernel_model.specs.Threads.{IsMoved}
use Rattle.kernel_model.specs.Waits.{MayWait}
use Rattle.kernel_model.proofs.LockCalls.{signal_holds, unlock_holds}
use Rattle.kernel_model.proofs.LockPolls.{waited_holds}
use Rattle.kernel_model.proofs.Locks.{KeepsEach, handed_keeps, keeps_same, released_keeps, signalled_keeps}
use Rattle.kernel_model.proofs.Tests.{none_is_no, same_some}
use Rattle.kernel_parts.specs.OwnCalls.{own_after}
use Rattle.kernel_parts.specs.Keys.{is_own, key}
use Rattle.kernel_parts.specs.Touched.{IsKept}
use Rattle.kernel_parts.specs.Touching.{HasEach, left_if, spread_if, told_entry}
use Rattle.kernel_parts.proofs.Concerned.{told_left}
use Rattle.kernel_parts.proofs.Touched.{is_kept_self}
use Rattle.maps.specs.Maps.{get-insert-other, get-insert-same}
use Rattle.wait_set.specs.declared.waiting.Waiting.{Waiting}
use Rattle.wait_set.specs.Waits.{WaitMap, spread_out, touched}
use Rattle.readiness_laws.specs.Watched.{looked_at}
use Rattle.readiness_laws.specs.WatchedChanges.{AreKept, BothKept, IsLeft, ThreadChange, stays, told}
use Rattle.readiness_laws.proofs.WatchedSets.{spread_kept, touched_kept}
use Rattle.readiness_laws.proofs.WatchedTables.{threads_are_watched}
use Rattle.kernel_invariant.specs.Held as kernel
use Rattle.kernel_invariant.specs.Held.{AreHeld}
use Rattle.kernel_invariant.proofs.HeldEnds.{process_few}
use Rattle.kernel_invariant.proofs.HeldTimes.{no_last_kept}
use Rattle.kernel_invariant.proofs.Leaving.{with_process}
use Rattle.kernel_invariant.proofs.Parks.{thread_by}

-- ---- the entries

changed_so : (f : Waiting → Waiting) → ((v : Waiting) → IsKept v (f v)) → (b : Bool) (o : Option Waiting) → BothKept o (cond b (option_map f o) o)
changed_so f keeps true None = tt
changed_so f keeps true (Some v) = keeps v
changed_so f keeps false None = tt
changed_so f keeps false (Some v) = is_kept_self v

told_both : (own among all : Bool) (o : Option Waiting) → BothKept o (cond all (spread_if own o) (left_if among o))
told_both own among true o = changed_so spread_out spread_kept own o
told_both own among false o = changed_so touched touched_kept among o

-- ---- one thread

given_change : (thread : Thread) (entry : Option Waiting) → IsLeft entry → ThreadChange (Some thread) (Some (given thread)) entry
given_change Runnable entry left = stays refl
given_change (Waits call since until stage) entry left = told call since since until stage (Granted (is_late stage)) refl refl left

called_change : (thread : Thread) (entry : Option Waiting) → IsLeft entry → ThreadChange (Some thread) (Some (called thread)) entry
called_change Runnable entry left = stays refl
called_change (Waits call since until stage) entry left = told call since since until stage Signalled refl refl left

moved_change : (before after : Option Thread) (entry : Option Waiting) → IsMoved before after → IsLeft entry → ThreadChange before after entry
moved_change before after entry (model.stays thread) left = stays refl
moved_change before after entry (model.is_given lock thread waits) left = given_change thread entry left
moved_change before after entry (model.is_signalled condvar thread sleeps) left = called_change thread entry left

-- ---- the threads of a process

module _ (S : State) (p : ℕ) (own new : ProcessState) (V W : WaitMap) (those : Told) (few : p < 2 ^ 32) (there : get S.processes p ≡ Some own)
    (keeps : KeepsEach own.threads new.threads) (same : (t : ℕ) → has t those ≡ false → get new.threads t ≡ get own.threads t)
    (entries : HasEach (told_entry p those) V W) (held : AreHeld (looked_at S) V) where
  abbrev T : State
  T = with_process S p new

  told_kept : AreKept V W
  told_kept = record { each = λ k. subst (BothKept (get V k)) (sym (entries k)) (told_both (is_own p k) _ those.all (get V k)) }

  -- what holds of the process's own threads before and after, and of others, which do what they did
  each_thread : (P : ℕ → ℕ → Option Thread → Option Thread → Type 0) → ((t : ℕ) → P p t (get own.threads t) (get new.threads t))
      → ((q t : ℕ) → P q t (thread_of S q t) (thread_of S q t)) → (q t : ℕ) → P q t (thread_of S q t) (thread_of T q t)
  each_thread P mine others q t =
      elim (eqb_tells q p) [
        | inl is ↦ subst (λ k. P k t (thread_of S k t) (thread_of T k t)) (sym is.1)
            (subst (λ o. P p t o (thread_of T p t)) (sym (thread_by S p t own there))
            (subst (P p t (get own.threads t)) (sym (thread_by T p t new (get-insert-same S.processes p new))) (mine t)))
        | inr other ↦ subst (P q t (thread_of S q t))
            (sym (ap (λ o. thread_in (option_map (λ (x : ProcessState). x.threads) o) t) (get-insert-other S.processes p new q other.1))) (others q t)
      ]

  is_left : (t : ℕ) → t < 2 ^ 32 → has t those ≡ true → IsLeft (get W (key p t))
  is_left t below so =
      elim (get W (key p t)) as (λ o. get W (key p t) ≡ o → IsLeft o) [
        | None ↦ λ _. tt
        | Some w ↦ λ is.
            told_left p t those (get V (key p t)) w few below
            (λ last. none_is_no w (sym (no_last_kept V W told_kept held.last) ∙ ap (get W) (sym last) ∙ is)) so (sym (entries (key p t)) ∙ is)
      ] refl

  own_change : (t : ℕ) → t < 2 ^ 32 → ThreadChange (get own.threads t) (get new.threads t) (get W (key p t))
  own_change t below =
      elim (has t those) as (λ b. has t those ≡ b → ThreadChange (get own.threads t) (get new.threads t) (get W (key p t))) [
        | true ↦ λ so. moved_change (get own.threads t) (get new.threads t) (get W (key p t)) (keeps t).moved (is_left t below so)
        | false ↦ λ no. stays (same t no)
      ] refl

  pub told_is_held : AreHeld (looked_at (with_process S p new)) W
  told_is_held = record {
    watched = threads_are_watched S T.processes V W held.watched told_kept
        (λ q t. each_thread (λ r u before after. MayWait before → MayWait after) (λ u. (keeps u).may) (λ r u may. may) q t (held.watched.may q t))
        (λ q t some. held.watched.small q t (each_thread (λ r u before after. IsSome after → IsSome before) (λ u h. sym (keeps u).here ∙ h) (λ r u h. h) q t some))
        (each_thread (λ r u before after. u < 2 ^ 32 → ThreadChange before after (get W (key r u))) own_change (λ r u below. stays refl));
    last = no_last_kept V W told_kept held.last;
  }

pub told_by : (S : State) (counts : FinMap nat_cmp ℕ) (p : ℕ) (own new : ProcessState) (V W : WaitMap) (old those : Told) → kernel.IsKept S counts
    → Some own ≡ get S.processes p → KeepsEach own.threads new.threads → TellsOf own.threads new.threads old those → HasEach (told_entry p those) V W
    → AreHeld (looked_at S) V → AreHeld (looked_at (with_process S p new)) W
told_by S counts p own new V W old those kept there keeps tells entries held =
    told_is_held S p own new V W those (process_few S counts p kept (ap is_some (sym there))) (sym there) keeps (λ t no. (tells.tells t no).0) entries held

-- ---- what calls leave of a process's threads

-- of what there was, which is the same
from_same : (own had new : ProcessState) → Some own ≡ Some had → KeepsEach had.threads new.threads → KeepsEach own.threads new.threads
from_same own had new there keeps = subst (λ (x : ProcessState). KeepsEach x.threads new.threads) (sym (same_some own had there)) keeps

pub unlock_keeps : (p t lock word : ℕ) (own : ProcessState) → KeepsEach own.threads (own_after (unlock_in p t lock word (Some own)).updates own).threads
unlock_keeps p t lock word own =
    unlock_holds (λ o. KeepsEach own.threads (own_after o.updates own).threads) p t lock word (Some own) (λ u. keeps_same (get own.threads u))
    (λ had new there. from_same own had (unlocked_own lock word t had) there (released_keeps (release_of t word) lock had.threads))

pub signal_keeps : (p condvar n : ℕ) (own : ProcessState) → KeepsEach own.threads (own_after (signal_in p condvar n (Some own)).updates own).threads
signal_keeps p condvar n own =
    signal_holds (λ o. KeepsEach own.threads (own_after o.updates own).threads) p condvar n (Some own) (λ none u. keeps_same (get own.threads u))
    (λ had there. from_same own had (signalled_own condvar n had) there (signalled_keeps n condvar had.threads))

pub wait_keeps : (userdata : ℕ) (what : What) (p t : ℕ) (stage : Option Stage) (own : ProcessState)
    → KeepsEach own.threads (own_after (waited_outcome userdata what p t stage (Some own)).updates own).threads
wait_keeps userdata what p t stage own =
    waited_holds (λ o. KeepsEach own.threads (own_after o.updates own).threads) userdata what p t stage (Some own)
    (λ errno writes u. keeps_same (get own.threads u)) (λ writes awake u. keeps_same (get own.threads u))
    (λ condvar condvar_word lock lock_word condvar_scope lock_scope had is there. from_same own had (handed_own lock had) there (handed_keeps lock had.threads))
