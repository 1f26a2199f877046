-- What wakes do, and what steps, wakes and ends leave of the deadlines until which threads wait.
--     ready_has_wake, wake_ends_wait      a ready thread has a wake, and its wakes end its wait
--     lock_wake_has_memory      one that waited for a lock is never told that memory ran out
--     wake_moves_only, wake_error_keeps, wake_others_stay      what a wake changes
--     wake_keeps, wake_moves_none      it makes and ends no thread, and moves none that waits
--     wake_keeps_valid, wake_keeps_made      what it leaves
--     step_each, wake_each, end_each      what holds of each thread
--     step_deadlines, wake_deadlines, end_deadlines      deadlines are kept
use Rattle.std.proofs.Common.{◌≡◌, ◌≢◌, ◌⊎◌, ℕ, ◌+◌, Bool, true, false, not, inl, inr, List, ◌∷◌, Option, Some, None, IsSome, is_some, refl, sym, ap, subst, ◌∙◌, arith}
use Rattle.std.proofs.lemmas.Bool.Decides.{eqb_tells}
use Rattle.std.specs.Prelude.{if◌then◌else◌}
use Rattle.std.specs.Option.{option_map}
use Rattle.std.specs.FinMap.{get}
use Rattle.abi_base.specs.declared.errno.Errno.TheVariants.{Fault, Nomem, Success}
use Rattle.abi_structures.specs.declared.events.Subscription.{Subscription}
use Rattle.abi_structures.specs.declared.events.What.{What}
use Rattle.abi_structures.specs.declared.events.What.TheVariants.{Condvar, LockRdlock, LockWrlock}
use Rattle.abi_types.specs.declared.call.Call.{Call}
use Rattle.abi_types.specs.declared.call.Call.TheVariants as call
use Rattle.abi_types.specs.declared.constants.Constants.{Constants}
use Rattle.abi_types.specs.declared.counts.Counts.{Counts}
use Rattle.abi_types.specs.declared.reply.Answer.{Answer}
use Rattle.abi_types.specs.declared.reply.Answer.TheVariants as answer
use Rattle.abi_types.specs.declared.reply.Reply.{Reply}
use Rattle.abi_types.specs.declared.thread.Stage.TheVariants.{Queued}
use Rattle.abi_types.specs.declared.status.Status.{Status}
use Rattle.abi_types.specs.declared.status.Status.TheVariants.{Live}
use Rattle.abi_types.specs.declared.thread.Thread.{Thread}
use Rattle.abi_types.specs.declared.thread.Thread.TheVariants.{Runnable, Waits}
use Rattle.abi_types.specs.declared.wake.WakeIn.{WakeIn}
use Rattle.abi_types.specs.declared.wake.WakeIn.TheVariants as wake
use Rattle.abi_types.specs.declared.who.Who.{Who}
use Rattle.kernel_model.specs.Calls.{meaning_of}
use Rattle.kernel_model.specs.Deadlines.{is_due}
use Rattle.kernel_model.specs.Families.Locks.{with_word}
use Rattle.kernel_model.specs.Laws.{HasSameProcess, IsKilled, MovesOnly}
use Rattle.kernel_model.specs.Outcome.{is_parked}
use Rattle.kernel_model.specs.OwnChanges.{next_child}
use Rattle.kernel_model.specs.Reply.{refused}
use Rattle.kernel_model.specs.State.{State, ProcessState, Part, Threads, counts_in, has_part, Agree, thread_in, thread_of}
use Rattle.kernel_model.specs.Step.{tick, end_state, step_answer, step_state, touch, IsStep, IsUntouched}
use Rattle.kernel_model.specs.Threads.{child_made, ends_caller, ends_others, makes_child, makes_thread, moves_waiters, IsCallerAfter, IsMoved, LeavesCounts, LeavesThreads}
use Rattle.kernel_model.specs.Valid.{IsValid}
use Rattle.kernel_model.specs.WaitLaws.{IsOfLock, ResumesOnly, WakesOnly}
use Rattle.kernel_model.specs.Waits.{resumed, waiting, HasDeadline, HasDeadlines, MayWait, WaitsIn}
use Rattle.kernel_model.specs.Wakes.{answer_now, goes_on_at, is_done_now, is_ready, may_queue, woken, IsWake}
use Rattle.kernel_model.proofs.Moving.{moved_as_may, moved_runs}
use Rattle.kernel_model.proofs.Outcomes.{outcome_reads}
use Rattle.kernel_model.proofs.Parts.{agree_through}
use Rattle.kernel_model.proofs.Readiness.{done_stays, ready_is}
use Rattle.kernel_model.proofs.Refusals.{IsNoLackOf, error_keeps, reply_no_lack, same_reply}
use Rattle.kernel_model.proofs.Steps.{end_ends_only, step_keeps_made, step_keeps_valid, step_moves_only}
use Rattle.kernel_model.proofs.Tests.{none_is_no, not_true, same_some}
use Rattle.kernel_model.proofs.Threading.{each_of, thread_apart, thread_here, with_apart, with_counts, with_keeps, with_valid}
use Rattle.kernel_model.proofs.Threads.{leaves_counts, undone_allows, undone_stays, waited_keeps}
use Rattle.kernel_model.proofs.Touches.{others_stay, outside_own, tick_keeps, outside_clock}
use Rattle.kernel_model.proofs.Valids.{dead_process, live_or_dead, tick_valid}
use Rattle.kernel_model.proofs.WokenCalls.{counts_by_word, may_queue_by, parked_lasts, queueing, queueing_at, same_by_word, same_condition, undone_moves, waited_moves, word_unread}

-- ---- the wake of a ready thread

not_not : (b : Bool) → not b ≡ true → b ≡ false
not_not true h = absurd (not_true h)
not_not false h = refl

-- where a thread is ready and yet waits on in the step of its call, it has left its condition variable
queues_then : (constants : Constants) (S : State) (who : Who) (call : Call) (word : ℕ) → WaitsIn S who call → is_ready constants S who.pid who.tid ≡ true
    → is_parked (step_answer constants (resumed S who) who (with_word word call)) ≡ true → may_queue call who.stage ≡ true
queues_then constants S who call word kept ready parked =
    let R = resumed S who in
    elim (meaning_of call).by_stage as (λ b. (meaning_of call).by_stage ≡ b
    → (if b then goes_on_at kept.1 (is_due S.clock kept.0) else is_done_now constants S who call) ≡ true → may_queue call who.stage ≡ true) [
      | true ↦ λ by goes. ap (may_queue call) kept.2
          ∙ may_queue_by call kept.1 (is_due S.clock kept.0) goes (queueing constants R who call word kept.1 kept.2 by parked)
      | false ↦ λ by done. (
          let later : is_done_now constants (tick S) who call ≡ true = done_stays constants S who call (S.clock + 1000) (omega arith) done in
          let replies : is_parked (step_answer constants R who call) ≡ false =
          ap (λ o. is_parked o.answer) (outcome_reads constants R who call) ∙ not_not (is_parked (answer_now constants (tick R) who call)) later in
          absurd (not_true (sym (ap (λ c. is_parked (step_answer constants R who c)) (word_unread word call by) ∙ replies) ∙ parked)))
    ] refl (sym (ready_is constants S who call kept) ∙ ready)

pub ready_has_wake : (constants : Constants) (S : State) (who : Who) (call : Call) (word : ℕ) → WaitsIn S who call → is_ready constants S who.pid who.tid ≡ true
    → IsWake constants S who call (wake.Plain word) (step_answer constants (resumed S who) who (with_word word call))
    (step_state constants (resumed S who) who (with_word word call))
ready_has_wake constants S who call word kept ready =
    (inl (refl, refl), queues_then constants S who call word kept ready, λ by. (refl, refl))

pub wake_ends_wait : (constants : Constants) (S : State) (who : Who) (call : Call) (word : ℕ) (answered : Answer) (T : State) → WaitsIn S who call
    → is_ready constants S who.pid who.tid ≡ true → IsStep constants (resumed S who) who (with_word word call) answered T
    → is_parked answered ≡ true → may_queue call who.stage ≡ true
wake_ends_wait constants S who call word answered T kept ready (inl done) parked =
    queues_then constants S who call word kept ready (sym (ap is_parked done.0) ∙ parked)
wake_ends_wait constants S who call word answered T kept ready (inr lacking) parked = absurd (not_true (sym (ap is_parked lacking.1) ∙ parked))

-- ---- lack of memory

fault_is_other : Fault ≢ Nomem
fault_is_other e = cc

-- where the wake is what the step of its call is, which of its own answers no lack of memory, it answers none
memory_left : (constants : Constants) (S : State) (who : Who) (call : Call) (word : ℕ) (reply : Reply) (T : State) → IsNoLackOf (with_word word call)
    → (meaning_of call).by_stage ≡ true → IsWake constants S who call (wake.Plain word) (answer.Reply reply) T → reply.errno ≢ Nomem
memory_left constants S who call word reply T none by is =
    reply_no_lack constants (resumed S who) who (with_word word call) reply none (sym (is.2 by).0)

abbrev poll_of : ℕ → What → List Subscription → Call
poll_of userdata what rest = call.Poll (record { userdata = userdata; what = what } ∷ rest)

memory_left_plain : (constants : Constants) (S : State) (who : Who) (userdata : ℕ) (what : What) (rest : List Subscription) (word : ℕ) (reply : Reply)
    (T : State) → IsOfLock what → IsWake constants S who (poll_of userdata what rest) (wake.Plain word) (answer.Reply reply) T → reply.errno ≢ Nomem
memory_left_plain constants S who userdata (LockRdlock lock old scope) rest word reply T of is =
    memory_left constants S who (poll_of userdata (LockRdlock lock old scope) rest) word reply T tt refl is
memory_left_plain constants S who userdata (LockWrlock lock old scope) rest word reply T of is =
    memory_left constants S who (poll_of userdata (LockWrlock lock old scope) rest) word reply T tt refl is
memory_left_plain constants S who userdata (Condvar condvar condvar_word lock old condvar_scope lock_scope) rest word reply T of is =
    memory_left constants S who (poll_of userdata (Condvar condvar condvar_word lock old condvar_scope lock_scope) rest) word reply T tt refl is
memory_left_plain constants S who userdata _ rest word reply T of is = absurd of

pub lock_wake_has_memory : (constants : Constants) (S : State) (who : Who) (userdata : ℕ) (what : What) (rest : List Subscription) (given : WakeIn)
    (reply : Reply) (T : State) → IsOfLock what
    → IsWake constants S who (poll_of userdata what rest) given (answer.Reply reply) T → reply.errno ≢ Nomem
lock_wake_has_memory constants S who userdata what rest (wake.Plain word) reply T of is =
    memory_left_plain constants S who userdata what rest word reply T of is
lock_wake_has_memory constants S who userdata what rest wake.Fault reply T of is = λ errno.
    fault_is_other (sym (ap (λ (r : Reply). r.errno) (same_reply reply (refused Fault) is.0)) ∙ errno)

-- ---- what a wake changes

resumed_other : (S : State) (who : Who) (q : ℕ) → q ≢ who.pid → HasSameProcess (resumed S who) S q
resumed_other S who q apart = (refl, with_apart S who.pid who.tid Runnable q apart, refl)

-- the same of two states that have the same of the process before
others_through : (S R T : State) (q : ℕ) → HasSameProcess R S q → HasSameProcess T R q ⊎ IsKilled R T q → HasSameProcess T S q ⊎ IsKilled S T q
others_through S R T q same (inl kept) = inl (kept.0 ∙ same.0, kept.1 ∙ same.1, kept.2 ∙ same.2)
others_through S R T q same (inr killed) =
    inr (killed.0, (sym same.2 ∙ killed.1.0, killed.1.1))

always_runs : (o : Option Thread) → IsSome o → option_map (λ (before : Thread). Runnable) o ≡ Some Runnable
always_runs None there = absurd (not_true there)
always_runs (Some thread) there = refl

runs_there : (S : State) (who : Who) → IsSome (thread_of S who.pid who.tid) → thread_of (resumed S who) who.pid who.tid ≡ Some Runnable
runs_there S who there = thread_here S who.pid who.tid Runnable ∙ always_runs (thread_of S who.pid who.tid) there

-- a thread that was not there is none that runs
none_resumed : (S : State) (who : Who) (t : ℕ) → thread_of S who.pid t ≡ None → thread_of (resumed S who) who.pid t ≡ None
none_resumed S who t none =
    elim (eqb_tells t who.tid) [
      | inl is ↦ subst (λ k. thread_of (resumed S who) who.pid k ≡ None) (sym is.1)
          (thread_here S who.pid who.tid Runnable ∙ ap (option_map (λ (before : Thread). Runnable)) (sym (ap (thread_of S who.pid) is.1) ∙ none))
      | inr other ↦ thread_apart S who.pid who.tid Runnable t other.1 ∙ none
    ]

pub resumed_runs : (S : State) (who : Who) → ResumesOnly S who (resumed S who)
resumed_runs S who = record {
  others = with_keeps S who.pid who.tid Runnable;
  table = refl;
  counts = with_counts S who.pid who.tid Runnable who.pid;
  runs = runs_there S who;
  threads = thread_apart S who.pid who.tid Runnable;
}

-- a thread whose call is done runs on, and one that waits on waits so
caller_runs : (waits : Thread) (given : Answer) (before after : Option Thread) → is_parked given ≡ false → before ≡ Some Runnable
    → IsCallerAfter waits given before after → after ≡ Some Runnable
caller_runs waits (answer.Parked writes) before after replies runs is = absurd (not_true (sym replies))
caller_runs waits (answer.Reply reply) before after replies runs is = moved_runs before after is runs

caller_waits : (waits : Thread) (given : Answer) (before after : Option Thread) → is_parked given ≡ true → before ≡ Some Runnable
    → IsCallerAfter waits given before after → after ≡ Some waits
caller_waits waits (answer.Parked writes) before after parked runs is = is ∙ ap (option_map (λ (was : Thread). waits)) runs
caller_waits waits (answer.Reply reply) before after parked runs is = absurd (not_true parked)

-- what is a step from the state in which the thread runs, with the word that its lock has
resumed_moves : (constants : Constants) (S : State) (who : Who) (call : Call) (word : ℕ) (answered : Answer) (T : State)
    → (is_parked answered ≡ true → may_queue call who.stage ≡ true) → MovesOnly constants (resumed S who) who (with_word word call) answered T
    → WakesOnly S who call answered T
resumed_moves constants S who call word answered T queues moves =
    let now : ℕ = S.clock + 1000 in
    let C : Call = with_word word call in
    let same = same_by_word word call answered in
    record {
      clock = moves.clock;
      others = λ childless q apart. others_through S (resumed S who) T q (resumed_other S who q apart) (moves.others q apart
          (λ is. none_is_no q (sym (ap (λ b. if b then next_child who.pid (get (resumed S who).processes who.pid) else None) (same.born ∙ childless)) ∙ is)));
      runs = λ live there lasts replies.
          caller_runs (waiting constants C who now) answered (thread_of (resumed S who) who.pid who.tid) (thread_of T who.pid who.tid) replies
          (runs_there S who there) ((moves.threads live).caller (same.caller ∙ lasts));
      queues = λ live there parked.
          let waits = queueing_at constants who.since call C now who.stage (queues parked) (same_condition word call) in (
            word,
            waits.0,
            caller_waits (waiting constants C who now) answered (thread_of (resumed S who) who.pid who.tid) (thread_of T who.pid who.tid) parked
                (runs_there S who there) ((moves.threads live).caller (parked_lasts C answered parked))
                ∙ ap Some waits.1 ∙ ap (λ n. Some (Waits C who.since None (Queued n waits.0))) (sym moves.clock),
          );
      threads = λ live t apart there lasts still. (
          let kept = thread_apart S who.pid who.tid Runnable t apart in
          (moves.threads live).same (same.moves ∙ still) t apart (subst IsSome (sym kept) there) (same.others ∙ lasts) ∙ kept);
      made = λ live t none there. (
          let makes = (moves.threads live).made t (none_resumed S who t none) there in
          (sym same.thread ∙ makes.0, makes.1 ∙ ap (λ (c : Counts). c.threads + 1) (with_counts S who.pid who.tid Runnable who.pid), makes.2));
      counts = λ live. counts_by_word word call answered (counts_in (get S.processes who.pid)) (counts_in (get T.processes who.pid))
          (subst (λ (c : Counts). LeavesCounts C answered c (counts_in (get T.processes who.pid))) (with_counts S who.pid who.tid Runnable who.pid) (moves.counts live));
    }

-- a call that is refused with FAULT does not end its thread
pub fault_ends : (call : Call) → ends_caller call (answer.Reply (refused Fault)) ≡ false
fault_ends (call.ThreadExit lock word scope) = refl
fault_ends _ = refl

-- a wake that is refused with FAULT counts nothing
fault_counts : (S : State) (who : Who) (call : Call) (answered : Answer) → answered ≡ answer.Reply (refused Fault)
    → LeavesCounts call answered (counts_in (get S.processes who.pid)) (counts_in (get (tick (resumed S who)).processes who.pid))
fault_counts S who call answered is =
    let change = (meaning_of call).own in
    subst (λ a. LeavesCounts call a (counts_in (get S.processes who.pid)) (counts_in (get (resumed S who).processes who.pid))) (sym is)
    (subst (λ c. LeavesCounts call (answer.Reply (refused Fault)) c (counts_in (get (resumed S who).processes who.pid))) (with_counts S who.pid who.tid Runnable who.pid)
    (leaves_counts call (answer.Reply (refused Fault)) who.pid who.tid (resumed S who) (tick (resumed S who))
    (undone_allows change who.tid (answer.Reply (refused Fault)) (get (resumed S who).processes who.pid) refl)
    (undone_stays change who.tid (answer.Reply (refused Fault)) refl refl (get (resumed S who).processes who.pid))))

pub wake_moves_only : (constants : Constants) (S : State) (who : Who) (call : Call) (given : WakeIn) (answered : Answer) (T : State)
    → IsWake constants S who call given answered T → WakesOnly S who call answered T
wake_moves_only constants S who call (wake.Plain word) answered T is =
    resumed_moves constants S who call word answered T is.1 (step_moves_only constants (resumed S who) who (with_word word call) answered T is.0)
wake_moves_only constants S who call wake.Fault answered T is =
    subst (WakesOnly S who call answered) (sym is.1) (record {
      clock = refl;
      others = λ childless q apart. inl (resumed_other S who q apart);
      runs = λ live there lasts replies. runs_there S who there;
      queues = λ live there parked. absurd (not_true (sym (ap is_parked is.0) ∙ parked));
      threads = λ live t apart there lasts still. thread_apart S who.pid who.tid Runnable t apart;
      made = λ live t none there. absurd (not_true (subst IsSome (none_resumed S who t none) there));
      counts = λ live. fault_counts S who call answered is.0;
    })

-- what waits waits in a call in which it may, so its wake makes and ends no thread
pub wake_keeps : (S : State) (who : Who) (call : Call) (answered : Answer) → IsValid S → WaitsIn S who call
    → (ends_caller call answered ≡ false) × (ends_others call answered ≡ false) × (makes_thread call answered ≡ false) × (makes_child call answered ≡ false)
wake_keeps S who call answered valid kept = waited_keeps call answered (subst MayWait kept.3 (valid.nearly.waits who.pid who.tid)).0

-- nor does it give a lock to a thread that waits, or signal one
pub wake_moves_none : (constants : Constants) (S : State) (who : Who) (call : Call) (given : WakeIn) (answered : Answer) (T : State)
    → IsWake constants S who call given answered T → IsValid S → WaitsIn S who call → moves_waiters call answered ≡ false
wake_moves_none constants S who call (wake.Plain word) answered T is valid kept =
    waited_moves constants (resumed S who) who call word kept.1 kept.2 answered T (subst MayWait kept.3 (valid.nearly.waits who.pid who.tid)).0 is.0
wake_moves_none constants S who call wake.Fault answered T is valid kept = ap (moves_waiters call) is.0 ∙ undone_moves call (refused Fault) refl

pub resumed_valid : (S : State) (who : Who) → IsValid S → IsValid (resumed S who)
resumed_valid S who valid = with_valid S who.pid who.tid Runnable tt valid

pub wake_error_keeps : (constants : Constants) (S : State) (who : Who) (call : Call) (given : WakeIn) (reply : Reply) (T : State)
    → IsWake constants S who call given (answer.Reply reply) T → IsValid S → reply.errno ≢ Success → T ≡ tick (resumed S who)
wake_error_keeps constants S who call (wake.Plain word) reply T is valid other =
    error_keeps constants (resumed S who) who (with_word word call) reply T is.0 (resumed_valid S who valid) other
wake_error_keeps constants S who call wake.Fault reply T is valid other = is.1

resumed_keeps : (S : State) (who : Who) (call : Call) (q : Part) → has_part (touch (resumed S who) who call) q ≡ false → Agree (resumed S who) S q
resumed_keeps S who call q h = with_keeps S who.pid who.tid Runnable q (outside_own (resumed S who) who call q h)

pub wake_others_stay : (constants : Constants) (S : State) (who : Who) (call : Call) (given : WakeIn) (answered : Answer) (T : State) (q : Part)
    → IsWake constants S who call given answered T → IsUntouched constants (resumed S who) who (woken call given) q → Agree T S q
wake_others_stay constants S who call (wake.Plain word) answered T q is untouched =
    agree_through T (resumed S who) S q (others_stay constants (resumed S who) who (with_word word call) answered T q is.0 untouched)
    (resumed_keeps S who (with_word word call) q untouched.0)
wake_others_stay constants S who call wake.Fault answered T q is untouched =
    subst (λ U. Agree U S q) (sym is.1)
    (agree_through (tick (resumed S who)) (resumed S who) S q (tick_keeps (resumed S who) q (outside_clock (resumed S who) who call q untouched.0))
    (resumed_keeps S who call q untouched.0))

-- ---- what a wake leaves

pub wake_keeps_valid : (constants : Constants) (S : State) (who : Who) (call : Call) (given : WakeIn) (answered : Answer) (T : State)
    → IsWake constants S who call given answered T → IsValid S → IsValid T
wake_keeps_valid constants S who call (wake.Plain word) answered T is valid =
    step_keeps_valid constants (resumed S who) who (with_word word call) answered T is.0 (resumed_valid S who valid)
wake_keeps_valid constants S who call wake.Fault answered T is valid =
    subst IsValid (sym is.1) (tick_valid (resumed S who) (resumed_valid S who valid))

pub wake_keeps_made : (constants : Constants) (S : State) (who : Who) (call : Call) (given : WakeIn) (answered : Answer) (T : State) (q : ℕ)
    → IsWake constants S who call given answered T → IsSome (get S.statuses q) → IsSome (get T.statuses q)
wake_keeps_made constants S who call (wake.Plain word) answered T q is made = step_keeps_made constants (resumed S who) who (with_word word call) answered T q is.0 made
wake_keeps_made constants S who call wake.Fault answered T q is made = subst (λ (U : State). IsSome (get U.statuses q)) (sym is.1) made

-- ---- what holds of each thread

-- the threads that a process has of its own
abbrev threads_in : Option ProcessState → Option Threads
threads_in own = option_map (λ (x : ProcessState). x.threads) own

pub ended_thread : (T : State) (p t : ℕ) → IsValid T → get T.statuses p ≢ Some Live → thread_of T p t ≡ None
ended_thread T p t valid dead = ap (λ o. thread_in (threads_in o) t) (dead_process T p valid.nearly dead)

-- a thread that comes with the step of another runs
comes_or_not : (constants : Constants) (S : State) (who : Who) (call : Call) (given : Answer) (T : State) → LeavesThreads constants S who call given T
    → (t : ℕ) → thread_of S who.pid t ≡ None → (o : Option Thread) → thread_of T who.pid t ≡ o → (o ≡ None) ⊎ (o ≡ Some Runnable)
comes_or_not constants S who call given T leaves t none None is = inl refl
comes_or_not constants S who call given T leaves t none (Some thread) is = inr (sym is ∙ (leaves.made t none (ap is_some is)).2)

-- a thread that the step of another has left is what it was, or was given its lock or was signalled, unless it is there no more or was made by that
-- and runs
pub other_after : (constants : Constants) (S : State) (who : Who) (call : Call) (given : Answer) (T : State) → IsStep constants S who call given T → IsValid T
    → (t : ℕ) → t ≢ who.tid
    → ((thread_of T who.pid t ≡ None) ⊎ (thread_of T who.pid t ≡ Some Runnable)) ⊎ IsMoved (thread_of S who.pid t) (thread_of T who.pid t)
other_after constants S who call given T step valid t apart =
    elim (live_or_dead (get T.statuses who.pid)) [
      | inl live ↦ (
          let leaves = (step_moves_only constants S who call given T step).threads live in
          elim (thread_of S who.pid t) as (λ o. thread_of S who.pid t ≡ o
          → ((thread_of T who.pid t ≡ None) ⊎ (thread_of T who.pid t ≡ Some Runnable)) ⊎ IsMoved (thread_of S who.pid t) (thread_of T who.pid t)) [
            | None ↦ λ e. inl (comes_or_not constants S who call given T leaves t e (thread_of T who.pid t) refl)
            | Some thread ↦ λ e. elim (ends_others call given) as (λ b. ends_others call given ≡ b
                → ((thread_of T who.pid t ≡ None) ⊎ (thread_of T who.pid t ≡ Some Runnable)) ⊎ IsMoved (thread_of S who.pid t) (thread_of T who.pid t)) [
                  | true ↦ λ clears. inl (inl (leaves.alone clears t apart))
                  | false ↦ λ stays. inr (leaves.others t apart (ap is_some e) stays)
                ] refl
          ] refl)
      | inr dead ↦ inl (inl (ended_thread T who.pid t valid dead))
    ]

-- what the caller does after its step: nothing, or what its answer says
pub caller_after : (constants : Constants) (S : State) (who : Who) (call : Call) (given : Answer) (T : State) → IsStep constants S who call given T → IsValid T
    → (thread_of T who.pid who.tid ≡ None)
    ⊎ IsCallerAfter (waiting constants call who (S.clock + 1000)) given (thread_of S who.pid who.tid) (thread_of T who.pid who.tid)
caller_after constants S who call given T step valid =
    elim (live_or_dead (get T.statuses who.pid)) [
      | inl live ↦ (
          let leaves = (step_moves_only constants S who call given T step).threads live in
          elim (ends_caller call given) as (λ b. ends_caller call given ≡ b → (thread_of T who.pid who.tid ≡ None)
          ⊎ IsCallerAfter (waiting constants call who (S.clock + 1000)) given (thread_of S who.pid who.tid) (thread_of T who.pid who.tid)) [
            | true ↦ λ ends. inl (leaves.ended ends)
            | false ↦ λ lasts. inr (leaves.caller lasts)
          ] refl)
      | inr dead ↦ inl (ended_thread T who.pid who.tid valid dead)
    ]

-- the process is the child, or it is not
pub same_child : (p : ℕ) (child : Option ℕ) → (child ≡ Some p) ⊎ (child ≢ Some p)
same_child p None = inr (λ is. none_is_no p is)
same_child p (Some q) =
    elim (eqb_tells q p) [
      | inl is ↦ inl (ap Some is.1)
      | inr other ↦ inr (λ is. other.1 (same_some q p is))
    ]

-- a process that ends from outside has no thread
end_threads : (S : State) (p : ℕ) (status : Status) (t : ℕ) → status ≢ Live → thread_of (end_state S p status) p t ≡ None
end_threads S p status t dead = ap (λ o. thread_in (threads_in o) t) (end_ends_only S p status dead).gone.1

module _ (P : ℕ → ℕ → Option Thread → Type 0) (none : (p t : ℕ) → P p t None) where
  other_thread : (S T : State) (q t : ℕ) → HasSameProcess T S q ⊎ IsKilled S T q → P q t (thread_of S q t) → P q t (thread_of T q t)
  other_thread S T q t (inl same) before = subst (P q t) (sym (ap (λ o. thread_in (threads_in o) t) same.1)) before
  other_thread S T q t (inr killed) before =
      subst (P q t) (sym (ap (λ o. thread_in (threads_in o) t) killed.0.1)) (none q t)

  -- it holds still of a thread that is given its lock or is signalled
  abbrev HoldsStill : Type 0
  HoldsStill = (p t : ℕ) (before after : Option Thread) → IsMoved before after → P p t before → P p t after

  caller_thread : HoldsStill → (p t : ℕ) (thread : Thread) (given : Answer) (before after : Option Thread) → (is_parked given ≡ true → P p t (Some thread))
      → IsCallerAfter thread given before after → P p t before → P p t after
  caller_thread still p t thread (answer.Parked writes) None after waits is h = subst (P p t) (sym is) (none p t)
  caller_thread still p t thread (answer.Parked writes) (Some before) after waits is h = subst (P p t) (sym is) (waits refl)
  caller_thread still p t thread (answer.Reply reply) before after waits is h = still p t before after is h

  -- what holds of each thread, of one that runs, of one that is given its lock or is signalled, and of one that waits in the call where it does, holds
  -- of each after a step
  pub step_each : ((p t : ℕ) → P p t (Some Runnable)) → HoldsStill → (constants : Constants) (S : State) (who : Who) (call : Call) (given : Answer) (T : State) → IsStep constants S who call given T → IsValid T
      → (is_parked given ≡ true → P who.pid who.tid (Some (waiting constants call who (S.clock + 1000)))) → ((p t : ℕ) → P p t (thread_of S p t))
      → (p t : ℕ) → P p t (thread_of T p t)
  step_each runs still constants S who call given T step valid waits before p t =
      elim (eqb_tells p who.pid) [
        | inl is ↦ subst (λ q. P q t (thread_of T q t)) (sym is.1) (elim (eqb_tells t who.tid) [
          | inl same ↦ subst (λ u. P who.pid u (thread_of T who.pid u)) (sym same.1)
              (elim (caller_after constants S who call given T step valid) [
                | inl gone ↦ subst (P who.pid who.tid) (sym gone) (none who.pid who.tid)
                | inr is_after ↦ caller_thread still who.pid who.tid (waiting constants call who (S.clock + 1000)) given (thread_of S who.pid who.tid)
                    (thread_of T who.pid who.tid) waits is_after (before who.pid who.tid)
              ])
          | inr other ↦ elim (other_after constants S who call given T step valid t other.1) [
            | inl (inl gone) ↦ subst (P who.pid t) (sym gone) (none who.pid t)
            | inl (inr made) ↦ subst (P who.pid t) (sym made) (runs who.pid t)
            | inr moved ↦ still who.pid t (thread_of S who.pid t) (thread_of T who.pid t) moved (before who.pid t)
          ]
        ])
        | inr other ↦ (
            let moves = step_moves_only constants S who call given T step in
            elim (same_child p (child_made call given who.pid (get S.processes who.pid))) [
              | inl born ↦ elim (moves.born p born t) [
                | inl gone ↦ subst (P p t) (sym gone) (none p t)
                | inr made ↦ subst (P p t) (sym made) (runs p t)
              ]
              | inr unborn ↦ other_thread S T p t (moves.others p other.1 unborn) (before p t)
            ])
      ]

  pub end_each : (S : State) (p : ℕ) (status : Status) → status ≢ Live → IsValid S → ((q t : ℕ) → P q t (thread_of S q t))
      → (q t : ℕ) → P q t (thread_of (end_state S p status) q t)
  end_each S p status dead valid before q t =
      let ends = end_ends_only S p status dead in
      elim (eqb_tells q p) [
        | inl is ↦ subst (λ k. P k t (thread_of (end_state S p status) k t)) (sym is.1)
            (subst (P p t) (sym (end_threads S p status t dead)) (none p t))
        | inr other ↦ other_thread S (end_state S p status) q t (ends.others q other.1) (before q t)
      ]

-- what holds of each thread that waits or runs, and of the one that waits on for its lock where it does, after a wake
pub wake_each : (P : ℕ → ℕ → Option Thread → Type 0) → ((p t : ℕ) → P p t None) → ((p t : ℕ) → P p t (Some Runnable))
    → ((p t : ℕ) (before after : Option Thread) → IsMoved before after → P p t before → P p t after) → (constants : Constants) (S : State)
    (who : Who) (call : Call) (given : WakeIn) (answered : Answer) (T : State) → IsWake constants S who call given answered T → IsValid S
    → (is_parked answered ≡ true → P who.pid who.tid (Some (waiting constants (woken call given) who (S.clock + 1000))))
    → ((p t : ℕ) → P p t (thread_of S p t)) → (p t : ℕ) → P p t (thread_of T p t)
wake_each P none runs still constants S who call (wake.Plain word) answered T is valid waits before =
    step_each P none runs still constants (resumed S who) who (with_word word call) answered T is.0
    (step_keeps_valid constants (resumed S who) who (with_word word call) answered T is.0 (resumed_valid S who valid)) waits
    (each_of who.pid who.tid Runnable S P (runs who.pid who.tid) before)
wake_each P none runs still constants S who call wake.Fault answered T is valid waits before =
    subst (λ (U : State). (p t : ℕ) → P p t (thread_of U p t)) (sym is.1) (each_of who.pid who.tid Runnable S P (runs who.pid who.tid) before)

-- ---- deadlines

pub step_deadlines : (constants : Constants) (S : State) (who : Who) (call : Call) (given : Answer) (T : State) → IsStep constants S who call given T
    → IsValid S → HasDeadlines constants S → HasDeadlines constants T
step_deadlines constants S who call given T step valid before =
    step_each (λ p t. HasDeadline constants) (λ p t. tt) (λ p t. tt) (λ p t before after moved. (moved_as_may before after moved).until constants) constants S who call given T step (step_keeps_valid constants S who call given T step valid)
    (λ _. refl) before

pub wake_deadlines : (constants : Constants) (S : State) (who : Who) (call : Call) (given : WakeIn) (answered : Answer) (T : State)
    → IsWake constants S who call given answered T → IsValid S → HasDeadlines constants S → HasDeadlines constants T
wake_deadlines constants S who call given answered T is valid before =
    wake_each (λ p t. HasDeadline constants) (λ p t. tt) (λ p t. tt) (λ p t before after moved. (moved_as_may before after moved).until constants) constants S who call given answered T is valid
    (λ _. refl) before

pub end_deadlines : (constants : Constants) (S : State) (p : ℕ) (status : Status) → status ≢ Live → IsValid S → HasDeadlines constants S
    → HasDeadlines constants (end_state S p status)
end_deadlines constants S p status dead valid before = end_each (λ q t. HasDeadline constants) (λ q t. tt) S p status dead valid before
