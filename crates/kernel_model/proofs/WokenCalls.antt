-- Calls of wakes: with the word that the lock has then, and of threads whose wait has come so far.
--     word_unread      a call that waits for no lock is the same with it
--     same_by_word, same_condition, counts_by_word      it makes and ends the same with any word
--     parked_lasts, undone_moves      a call in which its thread waits ends none, and one that is refused moves none that waits
--     queueing, may_queue_by, queueing_at      a thread that was woken and waits on has left its condition variable, and waits for the lock
--     waited_moves      no wake moves others that wait
use Rattle.std.proofs.Common.{◌≡◌, ℕ, Bool, true, false, List, [], ◌∷◌, Option, Some, None, inl, inr, refl, sym, ap, subst, ◌∙◌}
use Rattle.std.specs.Prelude.{if◌then◌else◌}
use Rattle.abi_base.specs.declared.errno.Errno.{Errno}
use Rattle.abi_structures.specs.declared.events.Event.{Event}
use Rattle.abi_structures.specs.declared.events.Subscription.{Subscription}
use Rattle.abi_structures.specs.declared.events.What.{What}
use Rattle.abi_structures.specs.declared.events.What.TheVariants.{Condvar, LockRdlock, LockWrlock}
use Rattle.abi_types.specs.Families.{is_anonymous}
use Rattle.abi_types.specs.declared.call.Call.{Call}
use Rattle.abi_types.specs.declared.call.Call.TheVariants as call
use Rattle.abi_types.specs.declared.constants.Constants.{Constants}
use Rattle.abi_types.specs.declared.counts.Counts.{Counts}
use Rattle.abi_types.specs.declared.reply.Answer.{Answer}
use Rattle.abi_types.specs.declared.reply.Answer.TheVariants as answer
use Rattle.abi_types.specs.declared.reply.Reply.{Reply}
use Rattle.abi_types.specs.declared.thread.Stage.{Stage}
use Rattle.abi_types.specs.declared.thread.Stage.TheVariants.{Begun, Signalled, Queued, Granted}
use Rattle.abi_types.specs.declared.thread.Thread.TheVariants.{Waits}
use Rattle.abi_types.specs.declared.who.Who.{Who}
use Rattle.kernel_model.specs.Calls.{meaning_of}
use Rattle.kernel_model.specs.Families.FileMeaning.{on_open}
use Rattle.kernel_model.specs.Families.LockCalls.{error_if, others_wait, taken_as, waited_outcome}
use Rattle.kernel_model.specs.Families.Locks.{Taking, deadlock, first_awaited, is_condition, is_late, queues, retaking, takes, too_many, with_lock_word, with_word}
use Rattle.kernel_model.specs.Families.MemoryCalls.{map_row, map_zeros, mapping}
use Rattle.kernel_model.specs.Families.Polls.{events_now, is_of_lock, poll, poll_by, told_or_waits}
use Rattle.kernel_model.specs.Meaning.{Meaning}
use Rattle.kernel_model.specs.Outcome.{Outcome, is_parked}
use Rattle.kernel_model.specs.OwnChanges.{begins_to_sleep}
use Rattle.kernel_model.specs.State.{ProcessState, State, Table}
use Rattle.kernel_model.specs.Step.{step_answer, tick, IsStep}
use Rattle.kernel_model.specs.Threads.{ends_caller, ends_others, is_success, makes_child, makes_thread, moves_waiters, LeavesCounts}
use Rattle.kernel_model.specs.View.{View, whole}
use Rattle.kernel_model.specs.Waits.{may_wait, stage_after, waits_at}
use Rattle.kernel_model.specs.Wakes.{goes_on_at, may_queue}
use Rattle.kernel_model.proofs.Outcomes.{outcome_holds}
use Rattle.kernel_model.proofs.Tests.{not_true}

-- ---- the word of the lock

-- what isn't of a lock is the same with each word
what_unread : (word : ℕ) (what : What) → is_of_lock what ≡ false → with_lock_word word what ≡ what
what_unread word (Condvar condvar condvar_word lock lock_word condvar_scope lock_scope) isnt = absurd (not_true (sym isnt))
what_unread word (LockRdlock lock old scope) isnt = absurd (not_true (sym isnt))
what_unread word (LockWrlock lock old scope) isnt = absurd (not_true (sym isnt))
what_unread word _ isnt = refl

-- a poll goes by its first subscription
by_first : (first : Subscription) (rest : List Subscription) → (poll (first ∷ rest)).by_stage ≡ is_of_lock first.what
by_first first rest = elim (is_of_lock first.what) as (λ b. (poll_by b (first ∷ rest)).by_stage ≡ b) [ true ↦ refl | false ↦ refl ]

pub word_unread : (word : ℕ) (call : Call) → (meaning_of call).by_stage ≡ false → with_word word call ≡ call
word_unread word (call.Poll []) by = refl
word_unread word (call.Poll (first ∷ rest)) by =
    ap (λ what. call.Poll (record first { what = what } ∷ rest)) (what_unread word first.what (sym (by_first first rest) ∙ by))
word_unread word _ by = refl

-- a call makes and ends the same with each word
pub record IsSameCall (one other : Call) (given : Answer) : Type 0 where
  pub caller : ends_caller one given ≡ ends_caller other given
  pub others : ends_others one given ≡ ends_others other given
  pub thread : makes_thread one given ≡ makes_thread other given
  pub born : makes_child one given ≡ makes_child other given
  pub moves : moves_waiters one given ≡ moves_waiters other given

same_call : (call : Call) (given : Answer) → IsSameCall call call given
same_call call given = record { caller = refl; others = refl; thread = refl; born = refl; moves = refl }

pub same_by_word : (word : ℕ) (call : Call) (given : Answer) → IsSameCall (with_word word call) call given
same_by_word word (call.Poll []) given = same_call (call.Poll []) given
same_by_word word (call.Poll (first ∷ rest)) given = record { caller = refl; others = refl; thread = refl; born = refl; moves = refl }
same_by_word word _ given = record { caller = refl; others = refl; thread = refl; born = refl; moves = refl }

what_condition : (word : ℕ) (what : What) → is_condition (Some (with_lock_word word what)) ≡ is_condition (Some what)
what_condition word (Condvar condvar condvar_word lock lock_word condvar_scope lock_scope) = refl
what_condition word (LockRdlock lock old scope) = refl
what_condition word (LockWrlock lock old scope) = refl
what_condition word _ = refl

pub same_condition : (word : ℕ) (call : Call) → is_condition (first_awaited (with_word word call)) ≡ is_condition (first_awaited call)
same_condition word (call.Poll []) = refl
same_condition word (call.Poll (first ∷ rest)) = what_condition word first.what
same_condition word _ = refl

pub counts_by_word : (word : ℕ) (call : Call) (given : Answer) (before after : Counts) → LeavesCounts (with_word word call) given before after
    → LeavesCounts call given before after
counts_by_word word (call.Poll []) given before after counts = counts
counts_by_word word (call.Poll (first ∷ rest)) given before after counts =
    record { threads = counts.threads; words = counts.words; forks = counts.forks; objects = counts.objects }
counts_by_word word _ given before after counts = counts

-- ---- calls that end and move none

pub parked_lasts : (call : Call) (given : Answer) → is_parked given ≡ true → ends_caller call given ≡ false
parked_lasts (call.ThreadExit lock word scope) (answer.Parked writes) parked = refl
parked_lasts (call.ThreadExit lock word scope) (answer.Reply reply) parked = absurd (not_true parked)
parked_lasts _ given parked = refl

pub undone_moves : (call : Call) (reply : Reply) → is_success reply.errno ≡ false → moves_waiters call (answer.Reply reply) ≡ false
undone_moves (call.LockUnlock lock word scope) reply isnt = isnt
undone_moves (call.ThreadExit lock word scope) reply isnt = isnt
undone_moves (call.CondvarSignal condvar word scope n) reply isnt = isnt
undone_moves _ reply isnt = refl

-- ---- a thread that waits on

-- the lock was not given to it
abbrev pub is_ungranted : Stage → Bool
is_ungranted (Granted late) = false
is_ungranted _ = true

-- by what a thread waits for, whose wait has come so far
waits_on : (userdata : ℕ) (what : What) (p t : ℕ) (stage : Stage) (own : Option ProcessState) → is_of_lock what ≡ true
    → is_parked (waited_outcome userdata what p t (Some stage) own).answer ≡ true → (is_condition (Some what) ≡ true) × (is_ungranted stage ≡ true)
waits_on userdata (LockRdlock lock word scope) p t Begun own of parked = absurd (not_true parked)
waits_on userdata (LockRdlock lock word scope) p t Signalled own of parked = absurd (not_true parked)
waits_on userdata (LockRdlock lock word scope) p t (Queued at late) own of parked = absurd (not_true parked)
waits_on userdata (LockRdlock lock word scope) p t (Granted late) own of parked = absurd (not_true parked)
waits_on userdata (LockWrlock lock word scope) p t Begun own of parked = absurd (not_true parked)
waits_on userdata (LockWrlock lock word scope) p t Signalled own of parked = absurd (not_true parked)
waits_on userdata (LockWrlock lock word scope) p t (Queued at late) own of parked = absurd (not_true parked)
waits_on userdata (LockWrlock lock word scope) p t (Granted late) own of parked = absurd (not_true parked)
waits_on userdata (Condvar condvar condvar_word lock lock_word condvar_scope lock_scope) p t Begun own of parked = (refl, refl)
waits_on userdata (Condvar condvar condvar_word lock lock_word condvar_scope lock_scope) p t Signalled own of parked = (refl, refl)
waits_on userdata (Condvar condvar condvar_word lock lock_word condvar_scope lock_scope) p t (Queued at late) own of parked = (refl, refl)
waits_on userdata (Condvar condvar condvar_word lock lock_word condvar_scope lock_scope) p t (Granted late) own of parked = absurd (not_true parked)
waits_on userdata _ p t stage own of parked = absurd (not_true of)

-- what is said of a thread that waits on
abbrev WaitsOn : Call → Stage → Outcome → Type 0
WaitsOn call stage o = is_parked o.answer ≡ true → (is_condition (first_awaited call) ≡ true) × (is_ungranted stage ≡ true)

poll_waits_on : (constants : Constants) (v : View) (who : Who) (table : Table) (first : Subscription) (rest : List Subscription) (stage : Stage)
    → who.stage ≡ Some stage → is_of_lock first.what ≡ true
    → WaitsOn (call.Poll (first ∷ rest)) stage ((poll (first ∷ rest)).effect constants v who table)
poll_waits_on constants v who table first rest stage is of =
    subst (λ b. WaitsOn (call.Poll (first ∷ rest)) stage ((poll_by b (first ∷ rest)).effect constants v who table)) (sym of)
    (subst (λ s. WaitsOn (call.Poll (first ∷ rest)) stage (waited_outcome first.userdata first.what who.pid who.tid s (v.process who.pid))) (sym is)
    (waits_on first.userdata first.what who.pid who.tid stage (v.process who.pid) of))

-- a mapping doesn't go by that
either_by : (b : Bool) (one other : Meaning) → one.by_stage ≡ false → other.by_stage ≡ false → (if b then one else other).by_stage ≡ false
either_by true one other first second = first
either_by false one other first second = second

with_word_of_lock : (word : ℕ) (what : What) → is_of_lock (with_lock_word word what) ≡ is_of_lock what
with_word_of_lock word (Condvar condvar condvar_word lock lock_word condvar_scope lock_scope) = refl
with_word_of_lock word (LockRdlock lock old scope) = refl
with_word_of_lock word (LockWrlock lock old scope) = refl
with_word_of_lock word _ = refl

pub queueing : (constants : Constants) (S : State) (who : Who) (call : Call) (word : ℕ) (stage : Stage) → who.stage ≡ Some stage
    → (meaning_of call).by_stage ≡ true → is_parked (step_answer constants S who (with_word word call)) ≡ true
    → (is_condition (first_awaited call) ≡ true) × (is_ungranted stage ≡ true)
queueing constants S who (call.Poll []) word stage is by parked = absurd (not_true by)
queueing constants S who (call.Poll (first ∷ rest)) word stage is by parked =
    let new : Subscription = record first { what = with_lock_word word first.what } in
    let both = outcome_holds (WaitsOn (call.Poll (new ∷ rest)) stage) constants S who (call.Poll (new ∷ rest)) (λ reply refuses none. absurd (not_true none))
    (λ table there. poll_waits_on constants (whole (tick S)) who table new rest stage is
    (with_word_of_lock word first.what ∙ sym (by_first first rest) ∙ by)) parked in
    (sym (what_condition word first.what) ∙ both.0, both.1)
queueing constants S who (call.MemMap place length prot flags fd offset) word stage is by parked =
    absurd (not_true (sym (either_by (is_anonymous flags) (map_zeros place) (on_open (map_row fd prot) (mapping place length offset)) refl refl) ∙ by))
queueing constants S who _ word stage is by parked = absurd (not_true by)

pub may_queue_by : (call : Call) (stage : Stage) (due : Bool) → goes_on_at stage due ≡ true
    → (is_condition (first_awaited call) ≡ true) × (is_ungranted stage ≡ true) → may_queue call (Some stage) ≡ true
may_queue_by call Begun due goes on = on.0
may_queue_by call Signalled due goes on = on.0
may_queue_by call (Queued at late) due goes on = absurd (not_true goes)
may_queue_by call (Granted late) due goes on = absurd (not_true on.1)

-- how it waits then: for the lock, without a deadline
pub queueing_at : (constants : Constants) (since : ℕ) (call woken : Call) (now : ℕ) (stage : Option Stage) → may_queue call stage ≡ true
    → is_condition (first_awaited woken) ≡ is_condition (first_awaited call)
    → (late : Bool) × (waits_at constants woken since (stage_after woken stage now) ≡ Waits woken since None (Queued now late))
queueing_at constants since call woken now None may same = absurd (not_true may)
queueing_at constants since call woken now (Some Begun) may same =
    (true, ap (λ b. waits_at constants woken since (if b then Queued now true else Begun)) (same ∙ may))
queueing_at constants since call woken now (Some Signalled) may same =
    (false, ap (λ b. waits_at constants woken since (if b then Queued now false else Begun)) (same ∙ may))
queueing_at constants since call woken now (Some (Queued at late)) may same = absurd (not_true may)
queueing_at constants since call woken now (Some (Granted late)) may same = absurd (not_true may)

-- ---- wakes move none

taken_awake : (userdata : ℕ) (what : What) (errno : Errno) (lock word : ℕ) (taking : Taking)
    → begins_to_sleep (taken_as userdata what errno lock word taking).answer ≡ false
taken_awake userdata what errno lock word deadlock = refl
taken_awake userdata what errno lock word too_many = refl
taken_awake userdata what errno lock word (takes new) = refl
taken_awake userdata what errno lock word queues = refl

waited_awake : (userdata : ℕ) (what : What) (p t : ℕ) (stage : Stage) (own : Option ProcessState)
    → begins_to_sleep (waited_outcome userdata what p t (Some stage) own).answer ≡ false
waited_awake userdata (LockRdlock lock word scope) p t Begun own = refl
waited_awake userdata (LockRdlock lock word scope) p t Signalled own = refl
waited_awake userdata (LockRdlock lock word scope) p t (Queued at late) own = refl
waited_awake userdata (LockRdlock lock word scope) p t (Granted late) own = refl
waited_awake userdata (LockWrlock lock word scope) p t Begun own = refl
waited_awake userdata (LockWrlock lock word scope) p t Signalled own = refl
waited_awake userdata (LockWrlock lock word scope) p t (Queued at late) own = refl
waited_awake userdata (LockWrlock lock word scope) p t (Granted late) own = refl
waited_awake userdata (Condvar condvar condvar_word lock lock_word condvar_scope lock_scope) p t Begun own =
    taken_awake userdata (Condvar condvar condvar_word lock lock_word condvar_scope lock_scope) (error_if (is_late Begun)) lock lock_word (retaking t lock_word (others_wait lock own))
waited_awake userdata (Condvar condvar condvar_word lock lock_word condvar_scope lock_scope) p t Signalled own =
    taken_awake userdata (Condvar condvar condvar_word lock lock_word condvar_scope lock_scope) (error_if (is_late Signalled)) lock lock_word (retaking t lock_word (others_wait lock own))
waited_awake userdata (Condvar condvar condvar_word lock lock_word condvar_scope lock_scope) p t (Queued at late) own =
    taken_awake userdata (Condvar condvar condvar_word lock lock_word condvar_scope lock_scope) (error_if (is_late (Queued at late))) lock lock_word (retaking t lock_word (others_wait lock own))
waited_awake userdata (Condvar condvar condvar_word lock lock_word condvar_scope lock_scope) p t (Granted late) own = refl
waited_awake userdata _ p t stage own = refl

told_awake : (events : List Event) → begins_to_sleep (told_or_waits events).answer ≡ false
told_awake [] = refl
told_awake (event ∷ events) = refl

poll_awake : (constants : Constants) (v : View) (who : Who) (table : Table) (subscriptions : List Subscription) (stage : Stage) → who.stage ≡ Some stage
    → begins_to_sleep ((poll subscriptions).effect constants v who table).answer ≡ false
poll_awake constants v who table [] stage is = refl
poll_awake constants v who table (first ∷ rest) stage is =
    elim (is_of_lock first.what) as (λ b. begins_to_sleep ((poll_by b (first ∷ rest)).effect constants v who table).answer ≡ false) [
      | true ↦ subst (λ s. begins_to_sleep (waited_outcome first.userdata first.what who.pid who.tid s (v.process who.pid)).answer ≡ false) (sym is)
          (waited_awake first.userdata first.what who.pid who.tid stage (v.process who.pid))
      | false ↦ told_awake (events_now constants v who.since table (first ∷ rest))
    ]

-- the poll of a wake is a poll
abbrev woken_subscriptions : ℕ → List Subscription → List Subscription
woken_subscriptions word [] = []
woken_subscriptions word (first ∷ rest) = record first { what = with_lock_word word first.what } ∷ rest

woken_poll : (word : ℕ) (subscriptions : List Subscription) → with_word word (call.Poll subscriptions) ≡ call.Poll (woken_subscriptions word subscriptions)
woken_poll word [] = refl
woken_poll word (first ∷ rest) = refl

poll_moves : (constants : Constants) (S : State) (who : Who) (subscriptions : List Subscription) (stage : Stage) → who.stage ≡ Some stage
    → begins_to_sleep (step_answer constants S who (call.Poll subscriptions)) ≡ false
poll_moves constants S who subscriptions stage is =
    outcome_holds (λ (o : Outcome). begins_to_sleep o.answer ≡ false) constants S who (call.Poll subscriptions) (λ reply refuses. refl)
    (λ table there. poll_awake constants (whole (tick S)) who table subscriptions stage is)

-- of a call in which a thread may wait, and has come so far
pub waited_moves : (constants : Constants) (S : State) (who : Who) (call : Call) (word : ℕ) (stage : Stage) → who.stage ≡ Some stage
    → (answered : Answer) (T : State) → may_wait call ≡ true → IsStep constants S who (with_word word call) answered T → moves_waiters call answered ≡ false
waited_moves constants S who (call.Poll subscriptions) word stage is answered T may (inl done) =
    ap begins_to_sleep done.0 ∙ ap (λ c. begins_to_sleep (step_answer constants S who c)) (woken_poll word subscriptions)
    ∙ poll_moves constants S who (woken_subscriptions word subscriptions) stage is
waited_moves constants S who (call.Poll subscriptions) word stage is answered T may (inr lacking) = ap begins_to_sleep lacking.1
waited_moves constants S who (call.LockUnlock lock old scope) word stage is answered T may step = absurd (not_true may)
waited_moves constants S who (call.ThreadExit lock old scope) word stage is answered T may step = absurd (not_true may)
waited_moves constants S who (call.CondvarSignal condvar old scope n) word stage is answered T may step = absurd (not_true may)
waited_moves constants S who _ word stage is answered T may step = refl
