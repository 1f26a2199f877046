-- The meanings of the calls that make and end threads are proper.
--     made_holds, left_holds      what holds of each of their outcomes
--     last_unlocked      the last thread is so once it has let a lock go
use Rattle.std.proofs.Common.{◌≡◌, inl, inr, ℕ, ◌==◌, ◌&&◌, not, Bool, true, false, List, [], ◌∷◌, Option, Some, None, IsSome, is_some, refl, sym, ap, subst, ◌∙◌}
use Rattle.std.proofs.lemmas.Bool.Decides.{eqb_tells}
use Rattle.std.specs.FinMap.{get, remove}
use Rattle.std.specs.Prelude.{nat_lt, ◌^◌, ◌-◌}
use Rattle.std.specs.FinMap.{len}
use Rattle.abi_base.specs.declared.errno.Errno.TheVariants.{Again, Perm}
use Rattle.abi_base.specs.declared.limits.TheConstants.{MOST_THREADS}
use Rattle.abi_types.specs.declared.reply.Answer.TheVariants as answer
use Rattle.abi_types.specs.declared.status.Status.TheVariants.{Exit}
use Rattle.maps.specs.Closure.{len_same}
use Rattle.maps.specs.Maps.{get-insert-same, get-remove-same, get-remove-other, insert-again}
use Rattle.kernel_model.specs.Families.LockCalls.{word_reply}
use Rattle.kernel_model.specs.Families.Locks.{release_of, released_threads, released_word, unlocked_own}
use Rattle.kernel_model.specs.Families.ProcessCalls.{can_make_thread, end_updates, has_next_number, is_last_thread, left_if_last, left_in, left_updates, left_with, made_if, made_in, thread_create, thread_exit}
use Rattle.kernel_model.specs.Outcome.{Outcome, replies}
use Rattle.kernel_model.specs.OwnChanges.{ends_one, makes_one, next_thread, with_next_thread, without_thread, AllowsChange, LeavesOwn}
use Rattle.kernel_model.specs.Proper.{IsPlain, IsProper, IsUnset, AllCarryOn}
use Rattle.kernel_model.specs.Reply.{refused, success}
use Rattle.kernel_model.specs.State.{ProcessState, State, Update, at_proc, at_status, has_part, put_all, put_one, set_process}
use Rattle.kernel_model.specs.Valid.{IsNearlyValid}
use Rattle.kernel_model.proofs.DescriptorCalls.{other_table, process_table}
use Rattle.kernel_model.proofs.Locks.{released_keeps}
use Rattle.kernel_model.proofs.OwnChanges.{ended_grows, set_process_nearly_valid, thread_grows}
use Rattle.kernel_model.proofs.MovedThreads.{moved_nearly_valid}
use Rattle.kernel_model.proofs.Parts.{beyond_process, own_becomes, own_stays}
use Rattle.kernel_model.proofs.ProcessCalls.{end_others, end_unset, exits_own}
use Rattle.kernel_model.proofs.Sights.{first_seen}
use Rattle.kernel_model.proofs.Tests.{none_of, not_true}
use Rattle.kernel_model.proofs.EndedValid.{end_nearly_valid}
use Rattle.kernel_model.proofs.Valids.{holder_is_made}

-- ---- thread_create

both_true : (a b : Bool) → (a && b) ≡ true → (a ≡ true) × (b ≡ true)
both_true true b h = (refl, h)
both_true false b h = absurd (not_true h)

not_is : (b : Bool) → not b ≡ true → b ≡ false
not_is true h = absurd (not_true h)
not_is false h = refl

-- What it takes that a thread can make one more.
pub record CanMake (t : ℕ) (own : ProcessState) : Type 0 where
  pub there : IsSome (get own.threads t)
  pub few : nat_lt (len own.threads) MOST_THREADS ≡ true
  pub free : get own.threads (next_thread own) ≡ None
  pub small : nat_lt (next_thread own) (2 ^ 30 - 1) ≡ true

pub can_is : (t : ℕ) (own : ProcessState) → can_make_thread t own ≡ true → CanMake t own
can_is t own can =
    let first = both_true (is_some (get own.threads t)) (nat_lt (len own.threads) MOST_THREADS && has_next_number own) can in
    let second = both_true (nat_lt (len own.threads) MOST_THREADS) (has_next_number own) first.1 in
    let third = both_true (not (is_some (get own.threads (next_thread own)))) (nat_lt (next_thread own) (2 ^ 30 - 1)) second.1 in
    record {
      there = first.0;
      few = second.0;
      free = none_of (get own.threads (next_thread own)) (not_is (is_some (get own.threads (next_thread own))) third.0);
      small = third.1;
    }

-- what holds of the refusal, and where a thread is made, holds of the outcome
pub made_holds : (P : Outcome → Type 0) (p t : ℕ) (o : Option ProcessState) → P (replies (refused Again))
    → ((own : ProcessState) → o ≡ Some own → CanMake t own → P (made_if true p own)) → P (made_in p t o)
made_holds P p t None refuses makes = refuses
made_holds P p t (Some own) refuses makes =
    elim (can_make_thread t own) as (λ b. can_make_thread t own ≡ b → P (made_if b p own)) [
      | true ↦ λ can. makes own refl (can_is t own can)
      | false ↦ λ _. refuses
    ] refl

free_by : (t : ℕ) (o : Option ProcessState) (own : ProcessState) → o ≡ Some own → CanMake t own
    → AllowsChange makes_one t (answer.Reply (success (next_thread own) 0)) o
free_by t o own there can = subst (AllowsChange makes_one t (answer.Reply (success (next_thread own) 0))) (sym there) (λ _. (can.there, can.free))

pub thread_create_is_proper : IsProper thread_create
thread_create_is_proper = record {
  names = tt;
  sees = tt;
  reads = λ constants S who table.
      ap (made_in who.pid who.tid) (first_seen who.pid (has_part (at_status who.pid ∷ []) (at_proc who.pid)) (get S.processes who.pid));
  walks = λ S who table. refl;
  sets = λ constants S who table part h.
      made_holds (λ o. IsUnset o part) who.pid who.tid (get S.processes who.pid) refl
      (λ own _ _. process_table who.pid part (beyond_process who.pid [] part h).0);
  touched = λ S table part h. absurd (not_true h);
  plain = λ constants v who table.
      made_holds (IsPlain (Again ∷ [])) who.pid who.tid (v.process who.pid) (refl, inr (refl, ([], [], refl))) (λ own _ _. (refl, inl refl));
  waits = λ h. absurd (not_true h);
  lacks = λ _. ((λ e. cc), tt);
  others = λ constants v who table q apart _.
      made_holds (λ o. IsUnset o (at_proc q) × IsUnset o (at_status q)) who.pid who.tid (v.process who.pid) (refl, refl)
      (λ own _ _. (other_table who.pid q apart, refl));
  own = λ constants S who table.
      made_holds (λ o. LeavesOwn makes_one who.pid who.tid o.answer S (put_all o.updates S)) who.pid who.tid (get S.processes who.pid)
      (inl (own_stays (get S.processes who.pid)))
      (λ own there _. inl (own_becomes with_next_thread (get S.processes who.pid) _ own there (get-insert-same S.processes who.pid (with_next_thread own))));
  allows = λ constants S who table.
      made_holds (λ o. AllowsChange makes_one who.tid o.answer (get S.processes who.pid)) who.pid who.tid (get S.processes who.pid) (λ done. absurd (not_true done))
      (λ own there can. free_by who.tid (get S.processes who.pid) own there can);
  carries = λ constants S who table nearly. made_holds (AllCarryOn S (table, [], false)) who.pid who.tid (get S.processes who.pid) tt (λ own _ _. (tt, tt));
  valid = λ constants S who table there nearly.
      made_holds (λ o. IsNearlyValid (put_all o.updates S)) who.pid who.tid (get S.processes who.pid) nearly
      (λ own is can. set_process_nearly_valid S who.pid own (with_next_thread own) is (thread_grows own who.tid can.there) nearly);
}

-- ---- thread_exit

-- the outcome in which the lock's word is written, with these updates
abbrev pub left_outcome : ℕ → ℕ → List Update → Outcome
left_outcome lock word updates = record { answer = answer.Reply (word_reply lock word); updates = updates }

-- what holds of the updates where the process ends, and where the thread alone does, holds of them
left_by : (Q : List Update → Type 0) (p t : ℕ) (own : ProcessState) → (is_last_thread t own ≡ true → Q (end_updates p (Exit 0)))
    → (is_last_thread t own ≡ false → Q (set_process p (without_thread t own) ∷ [])) → Q (left_updates p t (Some own))
left_by Q p t own ends goes =
    elim (is_last_thread t own) as (λ b. is_last_thread t own ≡ b → Q (left_if_last b p t own)) [ true ↦ ends | false ↦ goes ] refl

left_word : (P : Outcome → Type 0) (p t : ℕ) (own : ProcessState) (lock : ℕ) (word : Option ℕ) → P (replies (refused Perm))
    → ((new : ℕ) → word ≡ Some new → is_last_thread t own ≡ true → P (left_outcome lock new (end_updates p (Exit 0))))
    → ((new : ℕ) → word ≡ Some new → is_last_thread t own ≡ false → P (left_outcome lock new (set_process p (without_thread t own) ∷ [])))
    → P (left_with p t (Some own) lock word)
left_word P p t own lock None may_not ends goes = may_not
left_word P p t own lock (Some new) may_not ends goes = left_by (λ us. P (left_outcome lock new us)) p t own (ends new refl) (goes new refl)

-- what holds of the refusal, where the process ends, and where the thread alone does, holds of the outcome
pub left_holds : (P : Outcome → Type 0) (p t lock word : ℕ) (o : Option ProcessState) → P (replies (refused Perm))
    → ((new : ℕ) (own : ProcessState) → o ≡ Some own → released_word (release_of t word) lock own.threads ≡ Some new
    → is_last_thread t (unlocked_own lock word t own) ≡ true → P (left_outcome lock new (end_updates p (Exit 0))))
    → ((new : ℕ) (own : ProcessState) → o ≡ Some own → released_word (release_of t word) lock own.threads ≡ Some new
    → is_last_thread t (unlocked_own lock word t own) ≡ false
    → P (left_outcome lock new (set_process p (without_thread t (unlocked_own lock word t own)) ∷ []))) → P (left_in p t lock word o)
left_holds P p t lock word None may_not ends goes = may_not
left_holds P p t lock word (Some own) may_not ends goes =
    left_word P p t (unlocked_own lock word t own) lock (released_word (release_of t word) lock own.threads) may_not (λ new. ends new own refl)
    (λ new. goes new own refl)

-- the last thread is so once it has let a lock go
pub last_unlocked : (lock word t : ℕ) (own : ProcessState) → is_last_thread t (unlocked_own lock word t own) ≡ is_last_thread t own
last_unlocked lock word t own =
    let after = released_threads (release_of t word) lock own.threads in
    ap (λ n. n == 0) (len_same (remove after t) (remove own.threads t) (λ q.
    elim (eqb_tells q t) [
      | inl is ↦ ap (λ k. is_some (get (remove after t) k)) is.1 ∙ ap is_some (get-remove-same after t ∙ sym (get-remove-same own.threads t))
          ∙ ap (λ k. is_some (get (remove own.threads t) k)) (sym is.1)
      | inr other ↦ ap is_some (get-remove-other after t q other.1) ∙ (released_keeps (release_of t word) lock own.threads q).here
          ∙ sym (ap is_some (get-remove-other own.threads t q other.1))
    ]))

-- a nearly valid state stays so as a thread lets a lock go and ends
pub left_nearly_valid : (S : State) (p t lock word : ℕ) (own : ProcessState) → get S.processes p ≡ Some own → IsNearlyValid S
    → IsNearlyValid (put_one (set_process p (without_thread t (unlocked_own lock word t own))) S)
left_nearly_valid S p t lock word own there nearly =
    let unlocked = unlocked_own lock word t own in
    let keeps = released_keeps (release_of t word) lock own.threads in
    subst (λ m. IsNearlyValid (record S { processes = m })) (insert-again S.processes p unlocked (without_thread t unlocked))
    (set_process_nearly_valid (put_one (set_process p unlocked) S) p unlocked (without_thread t unlocked) (get-insert-same S.processes p unlocked)
    (ended_grows unlocked t) (moved_nearly_valid S p own (released_threads (release_of t word) lock own.threads) there keeps nearly))

pub thread_exit_is_proper : (lock word : ℕ) → IsProper (thread_exit lock word)
thread_exit_is_proper lock word = record {
  names = tt;
  sees = tt;
  reads = λ constants S who table.
      ap (left_in who.pid who.tid lock word) (first_seen who.pid (has_part (at_status who.pid ∷ []) (at_proc who.pid)) (get S.processes who.pid));
  walks = λ S who table. refl;
  sets = λ constants S who table part h.
      let own = beyond_process who.pid [] part h in
      left_holds (λ o. IsUnset o part) who.pid who.tid lock word (get S.processes who.pid) refl
      (λ _ _ _ _ _. end_unset who.pid (Exit 0) part own.0)
      (λ _ _ _ _ _. process_table who.pid part own.0);
  touched = λ S table part h. absurd (not_true h);
  plain = λ constants v who table.
      left_holds (IsPlain (Perm ∷ [])) who.pid who.tid lock word (v.process who.pid) (refl, inr (refl, ([], [], refl)))
      (λ _ _ _ _ _. (refl, inl refl)) (λ _ _ _ _ _. (refl, inl refl));
  waits = λ h. absurd (not_true h);
  lacks = λ h. absurd (not_true h);
  others = λ constants v who table q apart _.
      left_holds (λ o. IsUnset o (at_proc q) × IsUnset o (at_status q)) who.pid who.tid lock word (v.process who.pid) (refl, refl)
      (λ _ _ _ _ _. end_others who.pid (Exit 0) q apart) (λ _ _ _ _ _. (other_table who.pid q apart, refl));
  own = λ constants S who table.
      let f = λ (own : ProcessState). without_thread who.tid (unlocked_own lock word who.tid own) in
      left_holds (λ o. LeavesOwn (ends_one lock word) who.pid who.tid o.answer S (put_all o.updates S)) who.pid who.tid lock word
      (get S.processes who.pid) (inl (own_stays (get S.processes who.pid)))
      (λ _ _ _ _ _. inr (exits_own S who.pid 0))
      (λ _ own there _ _. inl (own_becomes f (get S.processes who.pid) _ own there (get-insert-same S.processes who.pid (f own))));
  allows = λ constants S who table. tt;
  carries = λ constants S who table nearly.
      left_holds (AllCarryOn S (table, [], false)) who.pid who.tid lock word (get S.processes who.pid) tt (λ _ _ _ _ _. (tt, (tt, tt)))
      (λ _ _ _ _ _. (tt, tt));
  valid = λ constants S who table there nearly.
      left_holds (λ o. IsNearlyValid (put_all o.updates S)) who.pid who.tid lock word (get S.processes who.pid) nearly
      (λ _ _ _ _ _. end_nearly_valid S who.pid (Exit 0) (λ e. cc) (holder_is_made S who.pid table nearly there) nearly)
      (λ _ own is _ _. left_nearly_valid S who.pid who.tid lock word own is nearly);
}
