-- Polls of locks and condition variables are proper.
--     waited_holds      what holds of each of their outcomes
--     lock_poll_is_proper      they are proper
use Rattle.std.proofs.Common.{◌≡◌, inl, inr, ℕ, Bool, true, false, List, [], ◌∷◌, Option, Some, None, refl, sym, ap, subst}
use Rattle.std.specs.Prelude.{if◌then◌else◌}
use Rattle.std.specs.FinMap.{get}
use Rattle.abi_base.specs.declared.errno.Errno.{Errno}
use Rattle.abi_base.specs.declared.errno.Errno.TheVariants.{Again, Deadlk, Perm, Success, TimedOut}
use Rattle.abi_structures.specs.declared.events.Subscription.{Subscription}
use Rattle.abi_structures.specs.declared.events.What.{What}
use Rattle.abi_structures.specs.declared.events.What.TheVariants.{Clock, Condvar, FdRead, FdWrite, LockRdlock, LockWrlock, ProcTerminate}
use Rattle.abi_types.specs.declared.reply.Answer.{Answer}
use Rattle.abi_types.specs.declared.reply.Answer.TheVariants as answer
use Rattle.abi_types.specs.declared.reply.WordWrites.{WordWrites}
use Rattle.abi_types.specs.declared.reply.WordWrites.TheVariants.{Zero}
use Rattle.abi_types.specs.declared.thread.Stage.{Stage}
use Rattle.abi_types.specs.declared.thread.Stage.TheVariants.{Begun, Signalled, Queued, Granted}
use Rattle.maps.specs.Maps.{get-insert-same}
use Rattle.kernel_model.specs.Families.LockCalls.{condition_outcome, error_if, lock_outcome, others_wait, sleeps_if, sleeps_in, taken_as, tells, waited_outcome, waited_own, writes_word}
use Rattle.kernel_model.specs.Families.LockWords.{holding_of}
use Rattle.kernel_model.specs.Families.Locks.{Taking, deadlock, handed, handed_own, handed_word, is_late, is_written_by, managed_word, queues, retaking, taking, takes, too_many}
use Rattle.kernel_model.specs.Families.Polls.{lock_poll_of}
use Rattle.kernel_model.specs.Families.WaitCalls.{fds_of, wait_rows}
use Rattle.kernel_model.specs.Meaning.{Meaning}
use Rattle.kernel_model.specs.Outcome.{Outcome, parks}
use Rattle.kernel_model.specs.OwnChanges.{AllowsChange, IsChangedBy, LeavesOwn, begins_to_sleep, own_by}
use Rattle.kernel_model.specs.Proper.{IsDeniedOutside, IsPatient, IsProper, IsUnset, OrWaits, AllCarryOn, handed_on, nothing_set}
use Rattle.kernel_model.specs.Sight.{reached}
use Rattle.kernel_model.specs.State.{ProcessState, at_proc, at_status, has_part, put_all}
use Rattle.kernel_model.specs.Valid.{IsNearlyValid}
use Rattle.kernel_model.proofs.Answering.{each_row_is_proper}
use Rattle.kernel_model.proofs.DescriptorCalls.{other_table, process_table}
use Rattle.kernel_model.proofs.Locks.{handed_keeps}
use Rattle.kernel_model.proofs.MovedThreads.{moved_nearly_valid}
use Rattle.kernel_model.proofs.Parts.{beyond_process, own_becomes, own_stays}
use Rattle.kernel_model.proofs.Sights.{first_seen}
use Rattle.kernel_model.proofs.Tests.{not_true}

-- ---- what they come to

module _ (P : Outcome → Type 0) (userdata : ℕ) (what : What) (told : (errno : Errno) (writes : WordWrites) → P (tells userdata what errno writes))
    (waits : (writes : WordWrites) → begins_to_sleep (answer.Parked writes) ≡ false → P (parks writes)) where
  taken_holds : (errno : Errno) (lock word : ℕ) (taken : Taking) → P (taken_as userdata what errno lock word taken)
  taken_holds errno lock word deadlock = told Deadlk Zero
  taken_holds errno lock word too_many = told Again Zero
  taken_holds errno lock word (takes new) = told errno (writes_word lock new)
  taken_holds errno lock word queues = waits (writes_word lock (managed_word word)) refl

  lock_holds : (reads : Bool) (t lock word : ℕ) (stage : Option Stage) (own : Option ProcessState) → P (lock_outcome userdata what reads t lock word stage own)
  lock_holds reads t lock word None own = taken_holds Success lock word (taking reads t word (others_wait lock own))
  lock_holds reads t lock word (Some Begun) own = told TimedOut Zero
  lock_holds reads t lock word (Some Signalled) own = told TimedOut Zero
  lock_holds reads t lock word (Some (Queued moment late)) own = told TimedOut Zero
  lock_holds reads t lock word (Some (Granted late)) own = told Success Zero

  module _ (p condvar lock : ℕ) (own : Option ProcessState) (sleeps : (x : ProcessState) → own ≡ Some x → P (sleeps_in p condvar lock (Some x))) where
    sleeps_holds : (o : Option ProcessState) → own ≡ o → P (sleeps_in p condvar lock o)
    sleeps_holds None e = waits Zero refl
    sleeps_holds (Some x) e = sleeps x e

    sleeps_if_holds : (b : Bool) → P (sleeps_if b userdata what p condvar lock own)
    sleeps_if_holds true = sleeps_holds own refl
    sleeps_if_holds false = told Perm Zero

    retaken_holds : (t word : ℕ) (stage : Stage)
        → P (taken_as userdata what (error_if (is_late stage)) lock word (retaking t word (others_wait lock own)))
    retaken_holds t word stage = taken_holds (error_if (is_late stage)) lock word (retaking t word (others_wait lock own))

    condition_holds : (t word : ℕ) (stage : Option Stage) → P (condition_outcome userdata what p t condvar lock word stage own)
    condition_holds t word None = sleeps_if_holds (is_written_by t (holding_of word))
    condition_holds t word (Some Begun) = retaken_holds t word Begun
    condition_holds t word (Some Signalled) = retaken_holds t word Signalled
    condition_holds t word (Some (Queued moment late)) = retaken_holds t word (Queued moment late)
    condition_holds t word (Some (Granted late)) = told (error_if late) Zero

-- the thread begins to wait at a condition variable
abbrev pub Sleeps : (Outcome → Type 0) → What → ℕ → Option ProcessState → Type 0
Sleeps P what p o =
    (condvar condvar_word lock lock_word : ℕ) (condvar_scope lock_scope : ℕ) (own : ProcessState)
    → what ≡ Condvar condvar condvar_word lock lock_word condvar_scope lock_scope → o ≡ Some own → P (sleeps_in p condvar lock (Some own))

-- what holds where an event is told, where the thread waits, and where it begins to wait at a condition variable, holds of the outcome
pub waited_holds : (P : Outcome → Type 0) (userdata : ℕ) (what : What) (p t : ℕ) (stage : Option Stage) (o : Option ProcessState)
    → ((errno : Errno) (writes : WordWrites) → P (tells userdata what errno writes))
    → ((writes : WordWrites) → begins_to_sleep (answer.Parked writes) ≡ false → P (parks writes)) → Sleeps P what p o
    → P (waited_outcome userdata what p t stage o)
waited_holds P userdata (LockRdlock lock word scope) p t stage o told waits sleeps =
    lock_holds P userdata (LockRdlock lock word scope) told waits true t lock word stage o
waited_holds P userdata (LockWrlock lock word scope) p t stage o told waits sleeps =
    lock_holds P userdata (LockWrlock lock word scope) told waits false t lock word stage o
waited_holds P userdata (Condvar condvar condvar_word lock lock_word condvar_scope lock_scope) p t stage o told waits sleeps =
    condition_holds P userdata (Condvar condvar condvar_word lock lock_word condvar_scope lock_scope) told waits p condvar lock o
    (λ own there. sleeps condvar condvar_word lock lock_word condvar_scope lock_scope own refl there) t lock_word stage
waited_holds P userdata (Clock clock timeout precision flags) p t stage o told waits sleeps = waits Zero refl
waited_holds P userdata (FdRead fd) p t stage o told waits sleeps = waits Zero refl
waited_holds P userdata (FdWrite fd) p t stage o told waits sleeps = waits Zero refl
waited_holds P userdata (ProcTerminate fd) p t stage o told waits sleeps = waits Zero refl

-- ---- what they do to their process

-- it stays as it is, unless the thread begins to wait at a condition variable
waited_by : (what : What) (t : ℕ) (given : Answer) → begins_to_sleep given ≡ false → (own : ProcessState) → own_by (waited_own what) t given own ≡ own
waited_by (Condvar condvar condvar_word lock lock_word condvar_scope lock_scope) t given awake own =
    ap (λ b. if b then handed_own lock own else own) awake
waited_by other t given awake own = refl

waited_stays : (what : What) (t : ℕ) (given : Answer) → begins_to_sleep given ≡ false → (o : Option ProcessState)
    → IsChangedBy (own_by (waited_own what) t given) o o
waited_stays what t given awake o =
    subst (λ (f : ProcessState → ProcessState). IsChangedBy f o o) (λ i own. sym (waited_by what t given awake own) i) (own_stays o)

waited_allows : (what : What) (t : ℕ) (given : Answer) (o : Option ProcessState) → AllowsChange (waited_own what) t given o
waited_allows (Condvar condvar condvar_word lock lock_word condvar_scope lock_scope) t given o = tt
waited_allows other t given o = tt

-- ---- they are proper

-- the meaning, with what each poll needs
abbrev pub rows_of : Meaning → List Subscription → Meaning
rows_of m subscriptions =
    record m { named = fds_of (wait_rows subscriptions); need = wait_rows subscriptions; seen = fds_of (wait_rows subscriptions) }

lock_poll_is_patient : (first : Subscription) (rest : List Subscription) → IsPatient (rows_of (lock_poll_of (first ∷ rest)) (first ∷ rest))
lock_poll_is_patient first rest = record {
  patient = λ constants v who table before earlier waits. waits;
  due = λ h. absurd (not_true (sym h));
  inside = λ v table. refl;
  keeps = refl;
}

pub lock_poll_is_proper : (first : Subscription) (rest : List Subscription) → IsProper (rows_of (lock_poll_of (first ∷ rest)) (first ∷ rest))
lock_poll_is_proper first rest = record {
  names = (each_row_is_proper (wait_rows (first ∷ rest))).names;
  sees = (each_row_is_proper (wait_rows (first ∷ rest))).sees;
  reads = λ constants S who table.
      let parts = at_status who.pid ∷ reached S table (fds_of (wait_rows (first ∷ rest))) in
      ap (waited_outcome first.userdata first.what who.pid who.tid who.stage) (first_seen who.pid (has_part parts (at_proc who.pid)) (get S.processes who.pid));
  walks = λ S who table. refl;
  sets = λ constants S who table part h.
      waited_holds (λ o. IsUnset o part) first.userdata first.what who.pid who.tid who.stage (get S.processes who.pid) (λ errno writes. refl)
      (λ writes _. refl) (λ _ _ _ _ _ _ _ _ _. process_table who.pid part (beyond_process who.pid _ part h).0);
  touched = λ S table part h. absurd (not_true h);
  plain = λ constants v who table.
      waited_holds (λ o. OrWaits true who.pid (v.process who.pid) o (IsDeniedOutside [] None o)) first.userdata first.what who.pid who.tid who.stage (v.process who.pid)
      (λ errno writes. inr (refl, inl refl)) (λ writes awake. inl (refl, nothing_set awake refl))
      (λ condvar _ lock _ _ _ own _ there. inl (
        refl,
        handed_on (record { address = condvar; word = 1 }) (record { address = lock; word = handed_word lock own.threads }) own refl there refl,
      ));
  waits = λ _. lock_poll_is_patient first rest;
  lacks = λ _. tt;
  others = λ constants v who table q apart _.
      waited_holds (λ o. IsUnset o (at_proc q) × IsUnset o (at_status q)) first.userdata first.what who.pid who.tid who.stage (v.process who.pid)
      (λ errno writes. (refl, refl)) (λ writes _. (refl, refl)) (λ _ _ _ _ _ _ _ _ _. (other_table who.pid q apart, refl));
  own = λ constants S who table.
      waited_holds (λ o. LeavesOwn (waited_own first.what) who.pid who.tid o.answer S (put_all o.updates S)) first.userdata first.what who.pid who.tid
      who.stage (get S.processes who.pid)
      (λ errno writes. inl (waited_stays first.what who.tid _ refl (get S.processes who.pid)))
      (λ writes awake. inl (waited_stays first.what who.tid (answer.Parked writes) awake (get S.processes who.pid)))
      (λ condvar word lock lock_word condvar_scope lock_scope own is there.
      let o = sleeps_in who.pid condvar lock (Some own) in
      subst (λ w. LeavesOwn (waited_own w) who.pid who.tid o.answer S (put_all o.updates S)) (sym is)
      (inl (own_becomes (handed_own lock) (get S.processes who.pid) _ own there (get-insert-same S.processes who.pid (handed_own lock own)))));
  allows = λ constants S who table. waited_allows first.what who.tid _ (get S.processes who.pid);
  carries = λ constants S who table nearly.
      waited_holds (AllCarryOn S (table, [], false)) first.userdata first.what who.pid who.tid who.stage (get S.processes who.pid) (λ errno writes. tt)
      (λ writes _. tt) (λ _ _ _ _ _ _ _ _ _. (tt, tt));
  valid = λ constants S who table there nearly.
      waited_holds (λ o. IsNearlyValid (put_all o.updates S)) first.userdata first.what who.pid who.tid who.stage (get S.processes who.pid)
      (λ errno writes. nearly) (λ writes _. nearly)
      (λ _ _ lock _ _ _ own _ is. moved_nearly_valid S who.pid own (handed lock own.threads) is (handed_keeps lock own.threads) nearly);
}
