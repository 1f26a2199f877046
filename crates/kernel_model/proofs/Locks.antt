-- Locks that are handed on, and signals: what they leave of the threads of a process.
--     Keeps      what may become of a thread: it was given a lock that it waited for, or it was signalled, or it is what it was
--     given_keeps, called_keeps      of one thread
--     handed_keeps, released_keeps, signalled_keeps      of each thread of a process
--     handed_len, released_len, signalled_len      as many are there
use Rattle.std.proofs.Common.{◌≡◌, ◌≢◌, ◌⊎◌, inl, inr, ℕ, zero, suc, ◌==◌, ◌&&◌, ◌||◌, Bool, true, false, Option, Some, None, IsSome, is_some, refl, sym, ap, subst, ◌∙◌}
use Rattle.std.proofs.lemmas.Bool.Decides.{eqb_tells}
use Rattle.std.specs.Option.{option_map}
use Rattle.std.specs.Prelude.{if◌then◌else◌}
use Rattle.std.specs.FinMap.{get, len}
use Rattle.abi_structures.specs.declared.events.What.{What}
use Rattle.abi_structures.specs.declared.events.What.TheVariants.{Condvar, LockRdlock, LockWrlock}
use Rattle.abi_types.specs.declared.call.Call.{Call}
use Rattle.abi_types.specs.declared.constants.Constants.{Constants}
use Rattle.abi_types.specs.declared.thread.Stage.{Stage}
use Rattle.abi_types.specs.declared.thread.Stage.TheVariants.{Begun, Signalled, Queued, Granted}
use Rattle.abi_types.specs.declared.thread.Thread.{Thread}
use Rattle.abi_types.specs.declared.thread.Thread.TheVariants.{Runnable, Waits}
use Rattle.maps.specs.Closure.{changed, get-changed, len-changed}
use Rattle.maps.specs.Maps.{least_key-entry}
use Rattle.kernel_model.specs.Earliest.{earliest, is_first}
use Rattle.kernel_model.specs.Families.Locks.{Release, all_readers, awaits_lock, awaits_signal, called, first_awaited, first_sleeper, front, given, handed, hands_on, is_condition, is_lock, is_next, is_not_after, is_reader, leaves, next_by, next_of, one_writer, reads_in, reads_next, refuses, released_threads, signalled, sleeps_at, waits_for, waits_to_write, with_called}
use Rattle.kernel_model.specs.State.{Threads}
use Rattle.kernel_model.specs.Threads.{IsMoved, stays, is_given, is_signalled}
use Rattle.kernel_model.specs.Waits.{deadline_at, deadline_of, has_left, HasDeadline, MayWait}
use Rattle.kernel_model.proofs.Tests.{not_true, same_some}

-- ---- one thread

-- what may become of a thread: it is there where it was, it is what it was, or was given a lock or signalled; one that ran runs; and it waits as it
-- may, and until its deadline, where it did
pub record Keeps (before after : Option Thread) : Type 0 where
  pub here : is_some after ≡ is_some before
  pub moved : IsMoved before after
  pub runs : before ≡ Some Runnable → after ≡ Some Runnable
  pub may : MayWait before → MayWait after
  pub until : (constants : Constants) → HasDeadline constants before → HasDeadline constants after

pub keeps_same : (thread : Option Thread) → Keeps thread thread
keeps_same thread = record { here = refl; moved = stays thread; runs = λ h. h; may = λ h. h; until = λ constants h. h }

no_runnable : (call : Call) (since : ℕ) (until : Option ℕ) (stage : Stage) → Some (Waits call since until stage) ≢ Some Runnable
no_runnable call since until stage e = cc

-- a lock may be given to a thread that waits for one, and its deadline counts then where it did
lock_or_condition : (at : ℕ) (what : Option What) (since : ℕ) (stage : Stage) → IsSome (awaits_lock at what since stage)
    → (is_condition what || is_lock what) ≡ true
lock_or_condition at (Some (LockRdlock lock word scope)) since stage h = refl
lock_or_condition at (Some (LockWrlock lock word scope)) since stage h = refl
lock_or_condition at (Some (Condvar condvar condvar_word lock lock_word condvar_scope lock_scope)) since stage h = refl
lock_or_condition at (Some other) since stage h = absurd (not_true h)
lock_or_condition at None since stage h = absurd (not_true h)

abbrev left_of : Option What → Stage → Bool
left_of what Begun = false
left_of what Signalled = false
left_of what (Queued at late) = true
left_of what (Granted late) = is_condition what

left_same : (at : ℕ) (what : Option What) (since : ℕ) (stage : Stage) → IsSome (awaits_lock at what since stage) → is_condition what ≡ left_of what stage
left_same at (Some (LockRdlock lock word scope)) since Begun h = refl
left_same at (Some (LockWrlock lock word scope)) since Begun h = refl
left_same at (Some (Condvar condvar condvar_word lock lock_word condvar_scope lock_scope)) since (Queued moment late) h = refl
left_same at what since stage h = absurd (not_true h)

left_is : (call : Call) (stage : Stage) → left_of (first_awaited call) stage ≡ has_left call stage
left_is call Begun = refl
left_is call Signalled = refl
left_is call (Queued at late) = refl
left_is call (Granted late) = refl

pub given_keeps : (at : ℕ) (thread : Thread) → IsSome (waits_for at thread) → Keeps (Some thread) (Some (given thread))
given_keeps at Runnable h = absurd (not_true h)
given_keeps at (Waits call since until stage) h = record {
  here = refl;
  moved = is_given at (Waits call since until stage) h;
  runs = λ e. absurd (no_runnable call since until stage e);
  may = λ m. (m.0, lock_or_condition at (first_awaited call) since stage h);
  until = λ constants e.
      e ∙ ap (λ b. if b then None else deadline_of constants call since) (sym (left_same at (first_awaited call) since stage h ∙ left_is call stage));
}

-- and one that waits at a condition variable may be signalled
signalled_condition : (at : ℕ) (what : Option What) (since : ℕ) (stage : Stage) → IsSome (awaits_signal at what since stage)
    → (is_condition what ≡ true) × (stage ≡ Begun)
signalled_condition at (Some (Condvar condvar condvar_word lock lock_word condvar_scope lock_scope)) since Begun h = (refl, refl)
signalled_condition at what since stage h = absurd (not_true h)

pub called_keeps : (at : ℕ) (thread : Thread) → IsSome (sleeps_at at thread) → Keeps (Some thread) (Some (called thread))
called_keeps at Runnable h = absurd (not_true h)
called_keeps at (Waits call since until stage) h =
    let is = signalled_condition at (first_awaited call) since stage h in
    record {
      here = refl;
      moved = is_signalled at (Waits call since until stage) h;
      runs = λ e. absurd (no_runnable call since until stage e);
      may = λ m. (m.0, is.0);
      until = λ constants e. e ∙ ap (deadline_at constants call since) is.1;
    }

-- ---- to whom a lock is handed

pub both_true : (a b : Bool) → (a && b) ≡ true → (a ≡ true) × (b ≡ true)
both_true true b h = (refl, h)
both_true false b h = absurd (not_true h)

equal_is : (a b : ℕ) → (a == b) ≡ true → a ≡ b
equal_is a b h = elim (eqb_tells a b) [ inl is ↦ is.1 | inr other ↦ absurd (not_true (sym other.0 ∙ h)) ]

first_some : (f : Thread → Option ℕ) (threads : Threads) (o : Option ℕ) → is_first f threads o ≡ true → IsSome o
first_some f threads None h = absurd (not_true h)
first_some f threads (Some moment) h = refl

not_after_some : (o other : Option ℕ) → is_not_after o other ≡ true → IsSome o
not_after_some None other h = absurd (not_true h)
not_after_some (Some moment) other h = refl

-- the thread that has waited longest for a lock waits for it, and so does the one that has waited longest at a condition variable
pub front_waits : (at : ℕ) (threads : Threads) (t : ℕ) (thread : Thread) → front at threads ≡ Some t → get threads t ≡ Some thread
    → is_first (waits_for at) threads (waits_for at thread) ≡ true
front_waits at threads t thread e there =
    let entry = least_key-entry (λ k x. is_first (waits_for at) threads (waits_for at x)) threads t e in
    ap (λ x. is_first (waits_for at) threads (waits_for at x)) (same_some thread entry.0 (sym there ∙ entry.1)) ∙ entry.2

pub sleeper_sleeps : (at : ℕ) (threads : Threads) (t : ℕ) (thread : Thread) → first_sleeper at threads ≡ Some t → get threads t ≡ Some thread
    → is_first (sleeps_at at) threads (sleeps_at at thread) ≡ true
sleeper_sleeps at threads t thread e there =
    let entry = least_key-entry (λ k x. is_first (sleeps_at at) threads (sleeps_at at x)) threads t e in
    ap (λ x. is_first (sleeps_at at) threads (sleeps_at at x)) (same_some thread entry.0 (sym there ∙ entry.1)) ∙ entry.2

-- The lock is handed to a thread because it waits to read, and all that stand first do; or because it stands first, and is to write.
abbrev pub IsNextAs : ℕ → Threads → ℕ → Thread → Type 0
IsNextAs at threads t thread =
    ((next_of at threads ≡ all_readers) × (reads_next at threads thread ≡ true))
    ⊎ ((next_of at threads ≡ one_writer t) × (front at threads ≡ Some t) × (is_reader thread ≡ false))

next_as_by : (at : ℕ) (threads : Threads) (t : ℕ) (thread : Thread) (o : Option ℕ) → front at threads ≡ o → get threads t ≡ Some thread
    → is_next (next_by threads o) at threads t thread ≡ true
    → ((next_by threads o ≡ all_readers) × (reads_next at threads thread ≡ true))
    ⊎ ((next_by threads o ≡ one_writer t) × (o ≡ Some t) × (is_reader thread ≡ false))
next_as_by at threads t thread None e there h = absurd (not_true h)
next_as_by at threads t thread (Some u) e there h =
    elim (reads_in (get threads u)) as (λ b. reads_in (get threads u) ≡ b → is_next (if b then all_readers else one_writer u) at threads t thread ≡ true
    → (((if b then all_readers else one_writer u) ≡ all_readers) × (reads_next at threads thread ≡ true))
    ⊎ (((if b then all_readers else one_writer u) ≡ one_writer t) × (Some u ≡ Some t) × (is_reader thread ≡ false))) [
      | true ↦ λ _ reads. inl (refl, reads)
      | false ↦ λ writes is.
          let same = sym (equal_is t u is) in
          inr (ap one_writer same, ap Some same, sym (ap reads_in there) ∙ ap (λ k. reads_in (get threads k)) (sym same) ∙ writes)
    ] refl h

pub next_as : (at : ℕ) (threads : Threads) (t : ℕ) (thread : Thread) → get threads t ≡ Some thread
    → is_next (next_of at threads) at threads t thread ≡ true → IsNextAs at threads t thread
next_as at threads t thread there h = next_as_by at threads t thread (front at threads) refl there h

-- each waits for it
pub next_waits : (at : ℕ) (threads : Threads) (t : ℕ) (thread : Thread) → get threads t ≡ Some thread
    → is_next (next_of at threads) at threads t thread ≡ true → IsSome (waits_for at thread)
next_waits at threads t thread there h =
    elim (next_as at threads t thread there h) [
      | inl reads ↦ not_after_some (waits_for at thread) (earliest (waits_to_write at) threads)
          (both_true (is_reader thread) (is_not_after (waits_for at thread) (earliest (waits_to_write at) threads)) reads.1).1
      | inr writes ↦ first_some (waits_for at) threads (waits_for at thread) (front_waits at threads t thread writes.1 there)
    ]

-- ---- the threads of a process

-- what becomes of each thread
abbrev pub KeepsEach : Threads → Threads → Type 0
KeepsEach before after = (t : ℕ) → Keeps (get before t) (get after t)

-- what changes each thread as it may change
changed_keeps : (f : ℕ → Thread → Thread) (threads : Threads)
    → ((t : ℕ) (thread : Thread) → get threads t ≡ Some thread → Keeps (Some thread) (Some (f t thread))) → KeepsEach threads (changed f threads)
changed_keeps f threads keeps t =
    subst (Keeps (get threads t)) (sym (get-changed f threads t))
    (elim (get threads t) as (λ o. get threads t ≡ o → Keeps o (option_map (f t) o)) [
      | None ↦ λ _. keeps_same None
      | Some thread ↦ λ there. keeps t thread there
    ] refl)

-- one that is changed where a test is true
if_keeps : (b : Bool) (before after : Thread) → (b ≡ true → Keeps (Some before) (Some after)) → Keeps (Some before) (Some (if b then after else before))
if_keeps true before after h = h refl
if_keeps false before after h = keeps_same (Some before)

pub handed_keeps : (at : ℕ) (threads : Threads) → KeepsEach threads (handed at threads)
handed_keeps at threads =
    changed_keeps (λ t thread. if is_next (next_of at threads) at threads t thread then given thread else thread) threads
    (λ t thread there. if_keeps (is_next (next_of at threads) at threads t thread) thread (given thread)
    (λ is. given_keeps at thread (next_waits at threads t thread there is)))

pub released_keeps : (r : Release) (at : ℕ) (threads : Threads) → KeepsEach threads (released_threads r at threads)
released_keeps refuses at threads = λ t. keeps_same (get threads t)
released_keeps (leaves word) at threads = λ t. keeps_same (get threads t)
released_keeps hands_on at threads = handed_keeps at threads

pub handed_len : (at : ℕ) (threads : Threads) → len (handed at threads) ≡ len threads
handed_len at threads = len-changed (λ t thread. if is_next (next_of at threads) at threads t thread then given thread else thread) threads

pub released_len : (r : Release) (at : ℕ) (threads : Threads) → len (released_threads r at threads) ≡ len threads
released_len refuses at threads = refl
released_len (leaves word) at threads = refl
released_len hands_on at threads = handed_len at threads

-- ---- signals

-- a thread is what it was, or it waited at the condition variable and was signalled
abbrev pub MayBeCalled : ℕ → Option Thread → Option Thread → Type 0
MayBeCalled at before after =
    (after ≡ before) ⊎ ((thread : Thread) × (before ≡ Some thread) × IsSome (sleeps_at at thread) × (after ≡ Some (called thread)))

-- one that was signalled waits there no more
pub called_is_up : (at : ℕ) (thread : Thread) → sleeps_at at (called thread) ≡ None
called_is_up at Runnable = refl
called_is_up at (Waits call since until stage) = up (first_awaited call) where
  up : (what : Option What) → awaits_signal at what since Signalled ≡ None
  up None = refl
  up (Some (Condvar condvar condvar_word lock lock_word condvar_scope lock_scope)) = refl
  up (Some other) = refl

called_by : (at : ℕ) (threads : Threads) (o : Option ℕ) → first_sleeper at threads ≡ o → (t : ℕ)
    → MayBeCalled at (get threads t) (get (with_called o threads) t)
called_by at threads None e t = inl refl
called_by at threads (Some u) e t =
    subst (MayBeCalled at (get threads t)) (sym (get-changed (λ k thread. if k == u then called thread else thread) threads t))
    (elim (get threads t) as (λ o. get threads t ≡ o → MayBeCalled at o (option_map (λ thread. if t == u then called thread else thread) o)) [
      | None ↦ λ _. inl refl
      | Some thread ↦ λ there. elim (t == u) as (λ b. (t == u) ≡ b → MayBeCalled at (Some thread) (Some (if b then called thread else thread))) [
        | true ↦ λ is. inr (
          thread,
          refl,
          first_some (sleeps_at at) threads (sleeps_at at thread)
              (sleeper_sleeps at threads t thread (e ∙ ap Some (sym (equal_is t u is))) there),
          refl,
        )
        | false ↦ λ _. inl refl
      ] refl
    ] refl)

-- the first of them is signalled
pub first_called : (at : ℕ) (threads : Threads) (t : ℕ) → MayBeCalled at (get threads t) (get (with_called (first_sleeper at threads) threads) t)
first_called at threads t = called_by at threads (first_sleeper at threads) refl t

-- who was signalled is signalled no more
then_called : (at : ℕ) (a b c : Option Thread) → MayBeCalled at a b → MayBeCalled at b c → MayBeCalled at a c
then_called at a b c (inl same) more = subst (λ x. MayBeCalled at x c) same more
then_called at a b c (inr up) (inl same) = inr (up.0, up.1, up.2, same ∙ up.3)
then_called at a b c (inr up) (inr more) =
    absurd (not_true (sym (ap is_some (called_is_up at up.0))
    ∙ ap (λ x. is_some (sleeps_at at x)) (same_some (called up.0) more.0 (sym up.3 ∙ more.1)) ∙ more.2))

pub signalled_called : (n at : ℕ) (threads : Threads) (t : ℕ) → MayBeCalled at (get threads t) (get (signalled n at threads) t)
signalled_called zero at threads t = inl refl
signalled_called (suc n) at threads t =
    let first = with_called (first_sleeper at threads) threads in
    then_called at (get threads t) (get first t) (get (signalled n at first) t) (first_called at threads t) (signalled_called n at first t)

called_keeps_it : (at : ℕ) (before after : Option Thread) → MayBeCalled at before after → Keeps before after
called_keeps_it at before after (inl same) = subst (Keeps before) (sym same) (keeps_same before)
called_keeps_it at before after (inr up) =
    subst (λ o. Keeps o after) (sym up.1) (subst (Keeps (Some up.0)) (sym up.3) (called_keeps at up.0 up.2))

pub signalled_keeps : (n at : ℕ) (threads : Threads) → KeepsEach threads (signalled n at threads)
signalled_keeps n at threads t = called_keeps_it at (get threads t) (get (signalled n at threads) t) (signalled_called n at threads t)

with_called_len : (o : Option ℕ) (threads : Threads) → len (with_called o threads) ≡ len threads
with_called_len None threads = refl
with_called_len (Some u) threads = len-changed (λ k thread. if k == u then called thread else thread) threads

pub signalled_len : (n at : ℕ) (threads : Threads) → len (signalled n at threads) ≡ len threads
signalled_len zero at threads = refl
signalled_len (suc n) at threads =
    signalled_len n at (with_called (first_sleeper at threads) threads) ∙ with_called_len (first_sleeper at threads) threads
