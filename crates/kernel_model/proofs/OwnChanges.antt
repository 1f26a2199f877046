-- States in which a process has other threads, or has made more.
--     Grows, more_grows, drawn_grows, thread_grows, ended_grows      what a process may become
--     set_process_nearly_valid      then a nearly valid state stays so
use Rattle.std.proofs.Common.{◌≡◌, ◌≢◌, ◌⊎◌, inl, inr, ℕ, ◌≤◌, Option, Some, None, IsSome, is_some, refl, sym, ap, subst, ◌∙◌, arith}
use Rattle.std.proofs.lemmas.Bool.Decides.{eqb_tells}
use Rattle.std.specs.FinMap.{get, insert, remove}
use Rattle.abi_types.specs.declared.thread.Thread.{Thread}
use Rattle.abi_types.specs.declared.thread.Thread.TheVariants.{Runnable}
use Rattle.maps.specs.Maps.{get-insert-same, get-insert-other, get-remove-same, get-remove-other}
use Rattle.tree_model.specs.Entries.{here_or_other}
use Rattle.kernel_model.specs.Families.Numbers.{made_more}
use Rattle.kernel_model.specs.OwnChanges.{drawn_more, next_thread, with_next_thread, without_thread}
use Rattle.kernel_model.specs.State.{State, ProcessState, counts_in, put_one, set_process, thread_in, thread_of}
use Rattle.kernel_model.specs.Valid.{IsNearlyValid}
use Rattle.kernel_model.specs.Waits.{MayWait}
use Rattle.kernel_model.proofs.Children.{one_keeps, KeepsChildren}
use Rattle.kernel_model.proofs.Tests.{none_is_no, not_true, same_some}
use Rattle.kernel_model.proofs.Valids.{processes_nearly_valid, some_again, threads_in}

-- What a process may become: each of its threads was there, or runs and is numbered; it has numbered and made no less, and no fewer
-- children.
pub record Grows (own new : ProcessState) : Type 0 where
  pub threads : (t : ℕ) (thread : Thread) → get new.threads t ≡ Some thread
      → (get own.threads t ≡ Some thread) ⊎ ((thread ≡ Runnable) × (t ≤ new.counts.threads))
  pub numbered : own.counts.threads ≤ new.counts.threads
  pub more : own.counts.objects ≤ new.counts.objects
  pub children : KeepsChildren (Some own) (Some new)

pub more_grows : (count : ℕ) (own : ProcessState) → Grows own (made_more count own)
more_grows count own = record { threads = λ t thread there. inl there; numbered = omega arith; more = omega arith; children = (refl, omega arith) }

pub drawn_grows : (words : ℕ) (own : ProcessState) → Grows own (drawn_more words own)
drawn_grows words own = record { threads = λ t thread there. inl there; numbered = omega arith; more = omega arith; children = (refl, omega arith) }

-- a process that has a thread may have one more
one_more : (own : ProcessState) (t : ℕ) (thread : Thread) → get (with_next_thread own).threads t ≡ Some thread
    → (get own.threads t ≡ Some thread) ⊎ ((thread ≡ Runnable) × (t ≤ next_thread own))
one_more own t thread there =
    elim (eqb_tells t (next_thread own)) [
      | inl is ↦ inr (
        same_some thread Runnable (sym there ∙ ap (get (with_next_thread own).threads) is.1 ∙ get-insert-same own.threads (next_thread own) Runnable),
        (let same : t ≡ next_thread own = is.1 in omega (arith, same)),
      )
      | inr other ↦ inl (sym (get-insert-other own.threads (next_thread own) Runnable t other.1) ∙ there)
    ]

pub thread_grows : (own : ProcessState) (t : ℕ) → IsSome (get own.threads t) → Grows own (with_next_thread own)
thread_grows own t there = record {
  threads = one_more own;
  numbered = omega arith;
  more = omega arith;
  children = (refl, omega arith);
}

-- and so may one that has one less
removed_before : (own : ProcessState) (t u : ℕ) (thread : Thread) → get (remove own.threads t) u ≡ Some thread → get own.threads u ≡ Some thread
removed_before own t u thread there =
    elim (eqb_tells u t) [
      | inl is ↦ absurd (none_is_no thread (sym (get-remove-same own.threads t) ∙ ap (get (remove own.threads t)) (sym is.1) ∙ there))
      | inr other ↦ sym (get-remove-other own.threads t u other.1) ∙ there
    ]

pub ended_grows : (own : ProcessState) (t : ℕ) → Grows own (without_thread t own)
ended_grows own t = record {
  threads = λ u thread there. inl (removed_before own t u thread there);
  numbered = omega arith;
  more = omega arith;
  children = (refl, omega arith);
}

-- ---- the state

module _ (S : State) (p : ℕ) (own new : ProcessState) (there : get S.processes p ≡ Some own) (grows : Grows own new) where
  abbrev after : State
  after = put_one (set_process p new) S

  here : get after.processes p ≡ Some new
  here = get-insert-same S.processes p new

  other : (q : ℕ) → q ≢ p → get after.processes q ≡ get S.processes q
  other q apart = get-insert-other S.processes p new q apart

  more_numbered : (q : ℕ) → (counts_in (get S.processes q)).threads ≤ (counts_in (get after.processes q)).threads
  more_numbered q =
      here_or_other (λ k. (counts_in (get S.processes k)).threads ≤ (counts_in (get after.processes k)).threads) p q
      (let is : (counts_in (get after.processes p)).threads ≡ new.counts.threads = ap (λ o. (counts_in o).threads) here in
      let was : (counts_in (get S.processes p)).threads ≡ own.counts.threads = ap (λ o. (counts_in o).threads) there in
      omega (arith, is, was, grows.numbered))
      (λ apart. let same : (counts_in (get after.processes q)).threads ≡ (counts_in (get S.processes q)).threads =
      ap (λ o. (counts_in o).threads) (other q apart) in omega (arith, same))

  more_made : (q : ℕ) → (counts_in (get S.processes q)).objects ≤ (counts_in (get after.processes q)).objects
  more_made q =
      here_or_other (λ k. (counts_in (get S.processes k)).objects ≤ (counts_in (get after.processes k)).objects) p q
      (let is : (counts_in (get after.processes p)).objects ≡ new.counts.objects = ap (λ o. (counts_in o).objects) here in
      let was : (counts_in (get S.processes p)).objects ≡ own.counts.objects = ap (λ o. (counts_in o).objects) there in
      omega (arith, is, was, grows.more))
      (λ apart. let same : (counts_in (get after.processes q)).objects ≡ (counts_in (get S.processes q)).objects =
      ap (λ o. (counts_in o).objects) (other q apart) in omega (arith, same))

  -- each thread was there, or it runs and is numbered
  thread_before : (q t : ℕ) (thread : Thread) → thread_of after q t ≡ Some thread
      → (thread_of S q t ≡ Some thread) ⊎ ((thread ≡ Runnable) × (t ≤ (counts_in (get after.processes q)).threads))
  thread_before q t thread now =
      elim (eqb_tells q p) [
        | inl is ↦ (
            let mine : get new.threads t ≡ Some thread =
            sym (ap (λ o. thread_in (threads_in o) t) here) ∙ subst (λ k. thread_of after k t ≡ Some thread) is.1 now in
            elim (grows.threads t thread mine) [
              | inl was ↦ inl (subst (λ k. thread_of S k t ≡ Some thread) (sym is.1) (ap (λ o. thread_in (threads_in o) t) there ∙ was))
              | inr made ↦ inr (
                made.0,
                subst (λ k. t ≤ (counts_in (get after.processes k)).threads) (sym is.1)
                    (subst (λ o. t ≤ (counts_in o).threads) (sym here) made.1),
              )
            ])
        | inr apart ↦ inl (sym (ap (λ o. thread_in (threads_in o) t) (other q apart.1)) ∙ now)
      ]

  numbered_by : IsNearlyValid S → (q t : ℕ) (o : Option Thread) → thread_of after q t ≡ o → IsSome o → t ≤ (counts_in (get after.processes q)).threads
  numbered_by v q t None is some = absurd (not_true some)
  numbered_by v q t (Some thread) is some =
      elim (thread_before q t thread is) [
        | inl was ↦ (
            let before : t ≤ (counts_in (get S.processes q)).threads = v.numbered q t (ap is_some was) in
            let more = more_numbered q in
            omega (arith, before, more))
        | inr made ↦ made.1
      ]

  waits_by : IsNearlyValid S → (q t : ℕ) (o : Option Thread) → thread_of after q t ≡ o → MayWait o
  waits_by v q t None is = tt
  waits_by v q t (Some thread) is =
      elim (thread_before q t thread is) [
        | inl was ↦ subst MayWait was (v.waits q t)
        | inr made ↦ subst (λ x. MayWait (Some x)) (sym made.0) tt
      ]

  pub set_process_nearly_valid : IsNearlyValid S → IsNearlyValid (put_one (set_process p new) S)
  set_process_nearly_valid v =
      processes_nearly_valid S (insert S.processes p new)
      (record {
        there = λ q. some_again S.processes p own new q there;
        numbered = λ q t now. numbered_by v q t (thread_of after q t) refl now;
        waits = λ q t. waits_by v q t (thread_of after q t) refl;
        more = more_made;
        children = one_keeps S.processes p own new there grows.children;
      })
      v
