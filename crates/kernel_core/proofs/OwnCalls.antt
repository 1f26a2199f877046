-- Calls that change what their process has of its own, and nothing else.
--     MayBecome, OnlyOwn      such updates
--     created_only, drawn_only, without_only, unlocked_only, signalled_only, waited_only, waited_stays      the calls whose updates are such
--     left_last, left_alone, left_again, refused_same      the updates as a thread ends, which may have let a lock go
--     own_left, own_kept, own_released      the state after them
--     IsOwnCall, own_call, own_call_kept, own_call_done      a call that comes to such updates: its state is kept, and it is done
use Rattle.std.proofs.Common.{◌≡◌, ◌⊎◌, ℕ, true, false, List, [], ◌∷◌, Bool, Option, None, Some, IsSome, is_some, Result, Ok, Err, inl, inr, refl, sym, ap, subst, ◌∙◌}
use Rattle.std.proofs.lemmas.Bool.Decides.{eqb_tells}
use Rattle.std.specs.Ordering.{nat_cmp}
use Rattle.std.specs.FinMap.{FinMap, get, insert, remove}
use Rattle.std.specs.declared.alloc.AllocError.{AllocError}
use Rattle.abi_structures.specs.declared.events.What.{What}
use Rattle.clock_random.specs.Random.{words_of}
use Rattle.abi_types.specs.declared.constants.Constants.{Constants}
use Rattle.abi_types.specs.declared.reply.Answer.{Answer}
use Rattle.maps.specs.Maps.{get-insert-other, get-remove-same, get-remove-other, insert-again, same_numbers}
use Rattle.kernel_model.specs.Families.ClockCalls.{drawn_by}
use Rattle.abi_types.specs.declared.status.Status.TheVariants.{Exit}
use Rattle.abi_types.specs.declared.thread.Stage.{Stage}
use Rattle.kernel_model.specs.Families.LockCalls.{signal_in, unlock_in, waited_outcome}
use Rattle.kernel_model.specs.Families.Locks.{Release, handed, handed_own, handed_word, hands_on, leaves, refuses, release_of, released_threads, released_word, signalled, signalled_own, unlocked_own, with_threads}
use Rattle.kernel_model.specs.Families.ProcessCalls.{end_updates, is_last_thread, left_if_last, left_updates, made_in}
use Rattle.kernel_model.specs.Outcome.{Outcome}
use Rattle.kernel_model.specs.OwnChanges.{drawn_more, with_next_thread, without_thread}
use Rattle.kernel_model.specs.Release.{release}
use Rattle.kernel_model.specs.State.{State, ProcessState, Threads, Update, put_all, set_process}
use Rattle.kernel_model.specs.Valid.{IsNearlyValid, IsValid}
use Rattle.kernel_model.proofs.ClockCalls.{drawn_holds}
use Rattle.kernel_model.proofs.LockCalls.{signal_holds, unlock_holds}
use Rattle.kernel_model.proofs.LockPolls.{waited_holds}
use Rattle.kernel_model.proofs.Locks.{handed_keeps, released_keeps, signalled_keeps, KeepsEach}
use Rattle.kernel_model.proofs.MovedThreads.{moved_nearly_valid}
use Rattle.kernel_model.proofs.OwnChanges.{drawn_grows, ended_grows, set_process_nearly_valid, thread_grows, Grows}
use Rattle.kernel_model.proofs.Tests.{none_is_no, not_true, same_some}
use Rattle.kernel_model.proofs.ThreadCalls.{made_holds}
use Rattle.kernel_model.proofs.Valids.{release_valid}
use Rattle.kernel_parts.specs.OwnCalls.{own_after, IsOwnDone}
use Rattle.kernel_model.specs.Done.{IsDone}
use Rattle.kernel_invariant.specs.Held.{IsKept}
use Rattle.kernel_core.specs.Threads.{is_last_in}
use Rattle.kernel_core.proofs.Done.{done_as, done_seen}
use Rattle.kernel_invariant.proofs.Leaving.{process_again, with_process}

-- ---- such updates

-- what process p has of its own, which was this, may become that: a nearly valid state stays so
abbrev pub MayBecome : ℕ → ProcessState → ProcessState → Type 0
MayBecome p own new = (S : State) → get S.processes p ≡ Some own → IsNearlyValid S → IsNearlyValid (with_process S p new)

grown : (p : ℕ) (own new : ProcessState) → Grows own new → MayBecome p own new
grown p own new grows S there v = set_process_nearly_valid S p own new there grows v

-- the updates set nothing, or what process p has of its own, which was this
abbrev pub OnlyOwn : ℕ → ProcessState → List Update → Type 0
OnlyOwn p own us = (us ≡ []) ⊎ ((new : ProcessState) × (us ≡ set_process p new ∷ []) × MayBecome p own new)

-- of what there was, which is the same
becomes : (p : ℕ) (own had new : ProcessState) → Some own ≡ Some had → MayBecome p had new → MayBecome p own new
becomes p own had new there may = subst (λ x. MayBecome p x new) (sym (same_some own had there)) may

pub created_only : (p t : ℕ) (own : ProcessState) → OnlyOwn p own (made_in p t (Some own)).updates
created_only p t own =
    made_holds (λ o. OnlyOwn p own o.updates) p t (Some own) (inl refl)
    (λ had there can. inr (with_next_thread had, refl, becomes p own had _ there (grown p had _ (thread_grows had t can.there))))

pub drawn_only : (constants : Constants) (p : ℕ) (own : ProcessState) (length : ℕ) → OnlyOwn p own (drawn_by constants p (Some own) length).updates
drawn_only constants p own length =
    drawn_holds (λ o. OnlyOwn p own o.updates) constants p (Some own) length (inl refl)
    (λ had there. inr (
      drawn_more (words_of length) had,
      refl,
      becomes p own had _ there (grown p had _ (drawn_grows (words_of length) had)),
    ))

pub without_only : (p t : ℕ) (own : ProcessState) → OnlyOwn p own (set_process p (without_thread t own) ∷ [])
without_only p t own = inr (without_thread t own, refl, grown p own _ (ended_grows own t))

-- threads that were given a lock or signalled
moved : (p : ℕ) (own : ProcessState) (threads : Threads) → KeepsEach own.threads threads → MayBecome p own (with_threads own threads)
moved p own threads keeps S there v = moved_nearly_valid S p own threads there keeps v

pub unlocked_may : (p lock word t : ℕ) (own : ProcessState) → MayBecome p own (unlocked_own lock word t own)
unlocked_may p lock word t own = moved p own (released_threads (release_of t word) lock own.threads) (released_keeps (release_of t word) lock own.threads)

pub unlocked_only : (p t lock word : ℕ) (own : ProcessState) → OnlyOwn p own (unlock_in p t lock word (Some own)).updates
unlocked_only p t lock word own =
    unlock_holds (λ o. OnlyOwn p own o.updates) p t lock word (Some own) (inl refl)
    (λ had new there. inr (unlocked_own lock word t had, refl, becomes p own had _ there (unlocked_may p lock word t had)))

pub signalled_only : (p condvar n : ℕ) (own : ProcessState) → OnlyOwn p own (signal_in p condvar n (Some own)).updates
signalled_only p condvar n own =
    signal_holds (λ o. OnlyOwn p own o.updates) p condvar n (Some own) (λ none. inl refl)
    (λ had there. inr (signalled_own condvar n had, refl, becomes p own had _ there (moved p had (signalled n condvar had.threads) (signalled_keeps n condvar had.threads))))

pub waited_only : (userdata : ℕ) (what : What) (p t : ℕ) (stage : Option Stage) (own : ProcessState)
    → OnlyOwn p own (waited_outcome userdata what p t stage (Some own)).updates
waited_only userdata what p t stage own =
    waited_holds (λ o. OnlyOwn p own o.updates) userdata what p t stage (Some own) (λ errno writes. inl refl) (λ writes awake. inl refl)
    (λ condvar condvar_word lock lock_word condvar_scope lock_scope had is there.
    inr (handed_own lock had, refl, becomes p own had _ there (moved p had (handed lock had.threads) (handed_keeps lock had.threads))))

-- each thread is there still
pub waited_stays : (userdata : ℕ) (what : What) (p t : ℕ) (stage : Option Stage) (own : ProcessState) (u : ℕ)
    → is_some (get (own_after (waited_outcome userdata what p t stage (Some own)).updates own).threads u) ≡ is_some (get own.threads u)
waited_stays userdata what p t stage own u =
    waited_holds (λ o. is_some (get (own_after o.updates own).threads u) ≡ is_some (get own.threads u)) userdata what p t stage (Some own)
    (λ errno writes. refl) (λ writes awake. refl)
    (λ condvar condvar_word lock lock_word condvar_scope lock_scope had is there.
    subst (λ (x : ProcessState). is_some (get (handed_own lock had).threads u) ≡ is_some (get x.threads u)) (sym (same_some own had there)) (handed_keeps lock had.threads u).here)

-- what is left as the last thread ends, and as another does
pub left_last : (p t : ℕ) (o : Option ProcessState) → is_last_in t o ≡ true → left_updates p t o ≡ end_updates p (Exit 0)
left_last p t None last = refl
left_last p t (Some own) last = ap (λ b. left_if_last b p t own) last

pub left_alone : (p t : ℕ) (own : ProcessState) → is_last_in t (Some own) ≡ false
    → left_updates p t (Some own) ≡ set_process p (without_thread t own) ∷ []
left_alone p t own apart = ap (λ b. left_if_last b p t own) apart

-- what is taken away doesn't count any more
remove-again : (m : FinMap nat_cmp ProcessState) (p : ℕ) (own : ProcessState) → remove (insert m p own) p ≡ remove m p
remove-again m p own =
    same_numbers _ _ (λ q.
    elim (eqb_tells q p) [
      | inl is ↦ ap (get (remove (insert m p own) p)) is.1 ∙ get-remove-same (insert m p own) p ∙ sym (ap (get (remove m p)) is.1 ∙ get-remove-same m p)
      | inr other ↦ get-remove-other (insert m p own) p q other.1 ∙ get-insert-other m p own q other.1 ∙ sym (get-remove-other m p q other.1)
    ])

-- as a thread ends that has let a lock go, what was left of that doesn't matter
again_by : (S : State) (p t : ℕ) (own : ProcessState) (b : Bool) → put_all (left_if_last b p t own) (with_process S p own) ≡ put_all (left_if_last b p t own) S
again_by S p t own true =
    (let same = remove-again S.processes p own in λ i. record (put_all (end_updates p (Exit 0)) S) { processes = same i })
again_by S p t own false = (let same = insert-again S.processes p own (without_thread t own) in λ i. record S { processes = same i })

pub left_again : (S : State) (p t : ℕ) (own : ProcessState) → put_all (left_updates p t (Some own)) (with_process S p own) ≡ put_all (left_updates p t (Some own)) S
left_again S p t own = again_by S p t own (is_last_thread t own)

-- a thread that may not let a lock go changes nothing
pub refused_same : (r : Release) (lock : ℕ) (threads : Threads) → released_word r lock threads ≡ None → released_threads r lock threads ≡ threads
refused_same refuses lock threads none = refl
refused_same (leaves word) lock threads none = absurd (none_is_no word (sym none))
refused_same hands_on lock threads none = absurd (none_is_no (handed_word lock threads) (sym none))

pub made : (o : Option ProcessState) → IsSome o → (own : ProcessState) × (o ≡ Some own)
made None there = absurd (not_true there)
made (Some own) there = (own, refl)

-- ---- the state after them

module _ (S : State) (p : ℕ) (own : ProcessState) (there : get S.processes p ≡ Some own) where
  pub own_left : (us : List Update) → OnlyOwn p own us → with_process S p (own_after us own) ≡ put_all us S
  own_left us (inl none) =
      ap (λ (x : List Update). with_process S p (own_after x own)) none ∙ process_again S p own there ∙ ap (λ (x : List Update). put_all x S) (sym none)
  own_left us (inr set) =
      ap (λ (x : List Update). with_process S p (own_after x own)) set.1 ∙ ap (λ (x : List Update). put_all x S) (sym set.1)

  pub own_valid : (us : List Update) → OnlyOwn p own us → IsValid S → IsValid (put_all us S)
  own_valid us (inl none) v = subst (λ (x : List Update). IsValid (put_all x S)) (sym none) v
  own_valid us (inr set) v =
      subst (λ (x : List Update). IsValid (put_all x S)) (sym set.1)
      (record { nearly = set.2 S there v.nearly; held = v.held; kept = v.kept; going = v.going })

  -- the release after them has nothing to do
  pub own_released : (us : List Update) → OnlyOwn p own us → IsValid S → with_process S p (own_after us own) ≡ release (put_all us S)
  own_released us only v = own_left us only ∙ sym (release_valid (put_all us S) (own_valid us only v))

  pub own_kept : (us : List Update) → OnlyOwn p own us → (counts : FinMap nat_cmp ℕ) → IsKept S counts → IsKept (with_process S p (own_after us own)) counts
  own_kept us only counts kept = record {
    valid = subst IsValid (sym (own_left us only)) (own_valid us only kept.valid);
    counted = kept.counted;
    few = kept.few;
    small = kept.small;
    processes = kept.processes;
  }

-- ---- a call that comes to such updates

-- It is of process p, whose own was this and becomes that, in the state S, which is seen as T and becomes U.
pub record IsOwnCall (S T U : State) (p : ℕ) (own new : ProcessState) (does : Option ProcessState → Outcome) : Type 0 where
  pub seen : S ≡ T
  pub had : get S.processes p ≡ Some own
  pub put : U ≡ with_process S p new
  pub only : OnlyOwn p own (does (Some own)).updates

-- by the number under which the process is kept
pub own_call : (S T U : State) (p n : ℕ) (own new : ProcessState) (does : Option ProcessState → Outcome) → n ≡ p → S ≡ T → Some own ≡ get S.processes n
    → U ≡ with_process S n new → OnlyOwn p own (does (Some own)).updates → IsOwnCall S T U p own new does
own_call S T U p n own new does same seen there put only =
    record { seen = seen; had = ap (get S.processes) (sym same) ∙ sym there; put = put ∙ ap (λ k. with_process S k new) same; only = only }

module _ {S T U : State} {p : ℕ} {own new : ProcessState} {does : Option ProcessState → Outcome} (call : IsOwnCall S T U p own new does) where
  pub own_call_kept : (r : Result Answer AllocError) (counts : FinMap nat_cmp ℕ) → IsOwnDone (does (Some own)) own new r → IsKept S counts → IsKept U counts
  own_call_kept (Ok given) counts done kept =
      subst (λ X. IsKept X counts) (sym (call.put ∙ ap (with_process S p) done.1)) (own_kept S p own call.had (does (Some own)).updates call.only counts kept)
  own_call_kept (Err e) counts done kept =
      subst (λ X. IsKept X counts) (sym (call.put ∙ ap (with_process S p) done.1 ∙ process_again S p own call.had)) kept

  done_by : (r : Result Answer AllocError) → IsOwnDone (does (Some own)) own new r → IsValid S → IsDone true (does (Some own)) S U r
  done_by (Ok given) done v =
      (done.0, call.put ∙ ap (with_process S p) done.1 ∙ own_released S p own call.had (does (Some own)).updates call.only v)
  done_by (Err e) done v = (refl, done.0, call.put ∙ ap (with_process S p) done.1 ∙ process_again S p own call.had)

  pub own_call_done : (r : Result Answer AllocError) → IsOwnDone (does (Some own)) own new r → IsValid S → IsDone true (does (get T.processes p)) T U r
  own_call_done r done v =
      done_seen S T call.seen true (λ X. does (get X.processes p)) U r
      (done_as true (does (Some own)) (does (get S.processes p)) S U r (ap does (sym call.had)) (done_by r done v))
