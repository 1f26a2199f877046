-- The meanings of the calls on locks and condition variables are proper.
--     unlock_holds, signal_holds      what holds of each of their outcomes
--     released_own_keeps      what letting a lock go leaves of the threads
use Rattle.std.proofs.Common.{◌≡◌, inl, inr, ℕ, false, [], ◌∷◌, Option, Some, None, refl, sym, ap, subst}
use Rattle.std.specs.FinMap.{get}
use Rattle.abi_base.specs.declared.errno.Errno.TheVariants.{Perm}
use Rattle.abi_types.specs.declared.reply.Answer.TheVariants as answer
use Rattle.maps.specs.Maps.{get-insert-same}
use Rattle.kernel_model.specs.Families.LockCalls.{condvar_signal, lock_unlock, signal_in, unlock_in, unlocks_to, word_reply}
use Rattle.kernel_model.specs.Families.Locks.{release_of, released_threads, released_word, signalled_own, signalled_word, unlocked_own}
use Rattle.kernel_model.specs.Outcome.{Outcome, replies}
use Rattle.kernel_model.specs.OwnChanges.{lets_lock_go, signals_some, IsChangedBy, LeavesOwn}
use Rattle.kernel_model.specs.Proper.{IsPlain, IsProper, IsUnset, AllCarryOn}
use Rattle.kernel_model.specs.Reply.{refused, success}
use Rattle.kernel_model.specs.State.{ProcessState, at_proc, at_status, has_part, put_all, set_process}
use Rattle.kernel_model.specs.Valid.{IsNearlyValid}
use Rattle.kernel_model.proofs.DescriptorCalls.{other_table, process_table}
use Rattle.kernel_model.proofs.Locks.{released_keeps, signalled_keeps}
use Rattle.kernel_model.proofs.MovedThreads.{moved_nearly_valid}
use Rattle.kernel_model.proofs.Parts.{beyond_process, own_becomes, own_stays}
use Rattle.kernel_model.proofs.Sights.{first_seen}
use Rattle.kernel_model.proofs.Tests.{not_true}

-- ---- lock_unlock

-- what holds of the refusal, and where the word is written, holds of the outcome
unlocks_holds : (P : Outcome → Type 0) (p lock : ℕ) (own : ProcessState) (word : Option ℕ) → P (replies (refused Perm))
    → ((new : ℕ) → P (record { answer = answer.Reply (word_reply lock new); updates = set_process p own ∷ [] })) → P (unlocks_to p lock own word)
unlocks_holds P p lock own None may_not writes = may_not
unlocks_holds P p lock own (Some new) may_not writes = writes new

pub unlock_holds : (P : Outcome → Type 0) (p t lock word : ℕ) (o : Option ProcessState) → P (replies (refused Perm))
    → ((own : ProcessState) (new : ℕ) → o ≡ Some own
    → P (record { answer = answer.Reply (word_reply lock new); updates = set_process p (unlocked_own lock word t own) ∷ [] }))
    → P (unlock_in p t lock word o)
unlock_holds P p t lock word None may_not writes = may_not
unlock_holds P p t lock word (Some own) may_not writes =
    unlocks_holds P p lock (unlocked_own lock word t own) (released_word (release_of t word) lock own.threads) may_not (λ new. writes own new refl)

pub lock_unlock_is_proper : (lock word : ℕ) → IsProper (lock_unlock lock word)
lock_unlock_is_proper lock word = record {
  names = tt;
  sees = tt;
  reads = λ constants S who table.
      ap (unlock_in who.pid who.tid lock word) (first_seen who.pid (has_part (at_status who.pid ∷ []) (at_proc who.pid)) (get S.processes who.pid));
  walks = λ S who table. refl;
  sets = λ constants S who table part h.
      unlock_holds (λ o. IsUnset o part) who.pid who.tid lock word (get S.processes who.pid) refl
      (λ own _ _. process_table who.pid part (beyond_process who.pid [] part h).0);
  touched = λ S table part h. absurd (not_true h);
  plain = λ constants v who table.
      unlock_holds (IsPlain (Perm ∷ [])) who.pid who.tid lock word (v.process who.pid) (refl, inr (refl, ([], [], refl))) (λ own _ _. (refl, inl refl));
  waits = λ h. absurd (not_true h);
  lacks = λ h. absurd (not_true h);
  others = λ constants v who table q apart _.
      unlock_holds (λ o. IsUnset o (at_proc q) × IsUnset o (at_status q)) who.pid who.tid lock word (v.process who.pid) (refl, refl)
      (λ own _ _. (other_table who.pid q apart, refl));
  own = λ constants S who table.
      unlock_holds (λ o. LeavesOwn (lets_lock_go lock word) who.pid who.tid o.answer S (put_all o.updates S)) who.pid who.tid lock word (get S.processes who.pid)
      (inl (own_stays (get S.processes who.pid)))
      (λ own _ there. inl (own_becomes (unlocked_own lock word who.tid) (get S.processes who.pid) _ own there
      (get-insert-same S.processes who.pid (unlocked_own lock word who.tid own))));
  allows = λ constants S who table. tt;
  carries = λ constants S who table nearly.
      unlock_holds (AllCarryOn S (table, [], false)) who.pid who.tid lock word (get S.processes who.pid) tt (λ own _ _. (tt, tt));
  valid = λ constants S who table there nearly.
      unlock_holds (λ o. IsNearlyValid (put_all o.updates S)) who.pid who.tid lock word (get S.processes who.pid) nearly
      (λ own _ is. moved_nearly_valid S who.pid own (released_threads (release_of who.tid word) lock own.threads) is
      (released_keeps (release_of who.tid word) lock own.threads) nearly);
}

-- ---- condvar_signal

-- what holds of the reply, with how others wait set or not, holds of the outcome
pub signal_holds : (P : Outcome → Type 0) (p condvar n : ℕ) (o : Option ProcessState) → (o ≡ None → P (replies (success 0 0)))
    → ((own : ProcessState) → o ≡ Some own → P (record {
      answer = answer.Reply (word_reply condvar (signalled_word n condvar own.threads));
      updates = set_process p (signalled_own condvar n own) ∷ [];
    })) → P (signal_in p condvar n o)
signal_holds P p condvar n None none signals = none refl
signal_holds P p condvar n (Some own) none signals = signals own refl

-- a process that isn't there is none still
own_absent : (f : ProcessState → ProcessState) (o : Option ProcessState) → o ≡ None → IsChangedBy f o o
own_absent f o none = subst (λ x. IsChangedBy f x x) (sym none) (0, refl)

pub condvar_signal_is_proper : (condvar n : ℕ) → IsProper (condvar_signal condvar n)
condvar_signal_is_proper condvar n = record {
  names = tt;
  sees = tt;
  reads = λ constants S who table.
      ap (signal_in who.pid condvar n) (first_seen who.pid (has_part (at_status who.pid ∷ []) (at_proc who.pid)) (get S.processes who.pid));
  walks = λ S who table. refl;
  sets = λ constants S who table part h.
      signal_holds (λ o. IsUnset o part) who.pid condvar n (get S.processes who.pid) (λ _. refl)
      (λ own _. process_table who.pid part (beyond_process who.pid [] part h).0);
  touched = λ S table part h. absurd (not_true h);
  plain = λ constants v who table.
      signal_holds (IsPlain []) who.pid condvar n (v.process who.pid) (λ _. (refl, inl refl)) (λ own _. (refl, inl refl));
  waits = λ h. absurd (not_true h);
  lacks = λ h. absurd (not_true h);
  others = λ constants v who table q apart _.
      signal_holds (λ o. IsUnset o (at_proc q) × IsUnset o (at_status q)) who.pid condvar n (v.process who.pid) (λ _. (refl, refl))
      (λ own _. (other_table who.pid q apart, refl));
  own = λ constants S who table.
      signal_holds (λ o. LeavesOwn (signals_some condvar n) who.pid who.tid o.answer S (put_all o.updates S)) who.pid condvar n (get S.processes who.pid)
      (λ none. inl (own_absent (signalled_own condvar n) (get S.processes who.pid) none))
      (λ own there. inl (own_becomes (signalled_own condvar n) (get S.processes who.pid) _ own there
      (get-insert-same S.processes who.pid (signalled_own condvar n own))));
  allows = λ constants S who table. tt;
  carries = λ constants S who table nearly.
      signal_holds (AllCarryOn S (table, [], false)) who.pid condvar n (get S.processes who.pid) (λ _. tt) (λ own _. (tt, tt));
  valid = λ constants S who table there nearly.
      signal_holds (λ o. IsNearlyValid (put_all o.updates S)) who.pid condvar n (get S.processes who.pid) (λ _. nearly)
      (λ own is. moved_nearly_valid S who.pid own _ is (signalled_keeps n condvar own.threads) nearly);
}
