-- Polls that begin with a lock or a condition variable.
--     lock_refused, lock_lacks, lock_replies, lock_waits      a step of one, by how it was answered
--     lock_may, lock_parks      its thread may wait in it, and its answer is that it does
--     same_stage, queues_ahead      the call in which a woken thread waits on
use Rattle.std.proofs.Common.{◌≡◌, ℕ, ◌+◌, Bool, true, false, ◌∷◌, Option, None, Some, IsSome, inl, refl, sym, ap, subst, ◌∙◌}
use Rattle.std.specs.Prelude.{if◌then◌else◌}
use Rattle.std.specs.FinMap.{get}
use Rattle.abi_base.specs.declared.errno.Errno.TheVariants.{Nomem}
use Rattle.abi_structures.specs.declared.events.Subscription.{Subscription}
use Rattle.abi_structures.specs.declared.events.What.{What}
use Rattle.abi_structures.specs.declared.events.What.TheVariants.{Condvar, LockRdlock, LockWrlock}
use Rattle.abi_types.specs.declared.call.Call.{Call}
use Rattle.abi_types.specs.declared.call.Call.TheVariants.{Poll}
use Rattle.abi_types.specs.declared.constants.Constants.{Constants}
use Rattle.abi_types.specs.declared.reply.Answer.{Answer}
use Rattle.abi_types.specs.declared.reply.Answer.TheVariants as answer
use Rattle.abi_types.specs.declared.reply.Reply.{Reply}
use Rattle.abi_types.specs.declared.reply.WordWrites.{WordWrites}
use Rattle.abi_types.specs.declared.thread.Thread.{Thread}
use Rattle.abi_types.specs.declared.wake.WakeIn.TheVariants as wake
use Rattle.abi_types.specs.declared.who.Who.{Who}
use Rattle.kernel_model.specs.Calls.{meaning_of, refusal_of, takes_memory}
use Rattle.kernel_model.specs.Families.LockCalls.{waited_outcome}
use Rattle.kernel_model.specs.Families.Locks.{with_lock_word, with_word}
use Rattle.kernel_model.specs.Families.Polls.{begins_with_lock, is_of_lock, poll_by}
use Rattle.kernel_model.specs.Outcome.{Outcome, IsSuccess, is_parked}
use Rattle.kernel_model.specs.Release.{release}
use Rattle.kernel_model.specs.Reply.{refused}
use Rattle.kernel_model.specs.State.{State, ProcessState, put_all, thread_of}
use Rattle.kernel_model.specs.Step.{outcome, outcome_by, step_answer, step_state, tick, IsStep}
use Rattle.kernel_model.specs.Valid.{IsValid}
use Rattle.kernel_model.specs.View.{whole}
use Rattle.kernel_model.specs.Waits.{may_wait, resumed, waiting, waits_if, with_thread, WaitsIn}
use Rattle.kernel_model.specs.Wakes.{is_ready, may_queue, LacksNoMemory}
use Rattle.kernel_model.proofs.LockPolls.{waited_holds}
use Rattle.kernel_model.proofs.Outcomes.{outcome_reads}
use Rattle.kernel_model.proofs.Parking.{waiting_may}
use Rattle.kernel_model.proofs.Threading.{with_valid}
use Rattle.kernel_model.proofs.Valids.{release_valid, tick_valid}
use Rattle.kernel_model.proofs.Waking.{wake_ends_wait}
use Rattle.poll_set.proofs.PollReads.{poll_by_stage, poll_takes_memory}
use Rattle.kernel_model.specs.Done.{IsAnswered}
use Rattle.poll_set.specs.Polls.{BeginsWith}
use Rattle.kernel_core.specs.Waiting.{call_ahead}
use Rattle.kernel_core.proofs.Acts.{act_allowed, allowed_by, done_exactly, lack_is_step, refused_by}
use Rattle.kernel_core.proofs.Done.{answered_as, replied}
use Rattle.kernel_core.proofs.Families.{lock_poll_does}
use Rattle.kernel_core.proofs.OwnCalls.{own_valid, waited_only, OnlyOwn}
use Rattle.kernel_invariant.proofs.Parks.{owner}

may_by : (b : Bool) (first : Subscription) (rest : _) → (poll_by b (first ∷ rest)).may_wait ≡ true
may_by true first rest = refl
may_by false first rest = refl

module _ (constants : Constants) (S : State) (who : Who) (call : Call) where
  pub lock_refused : (reply : Reply) → refusal_of call (get S.tables who.pid) ≡ Some reply → IsValid S
      → LacksNoMemory constants S who call (answer.Reply reply) (tick S)
  lock_refused reply refuses valid =
      let is = refused_by constants (tick S) who call reply refuses in
      done_exactly constants S (tick S) who call reply (replied (outcome_by constants (whole (tick S)) who call) (tick S) reply (tick_valid S valid) is)

  module _ (first : Subscription) (begins : BeginsWith first call) (unrefused : refusal_of call (get S.tables who.pid) ≡ None) where
    abbrev does : Option ProcessState → Outcome
    does own = waited_outcome first.userdata first.what who.pid who.tid who.stage own

    abbrev comes : Outcome
    comes = does (get S.processes who.pid)

    outcome_is : outcome_by constants (whole (tick S)) who call ≡ comes
    outcome_is =
        let found = allowed_by call (get S.tables who.pid) unrefused in
        act_allowed constants (tick S) who call found.0 found.1 found.2
        ∙ ap (λ (it : Call). (meaning_of it).effect constants (whole (tick S)) who found.0) begins.1
        ∙ lock_poll_does constants (tick S) who found.0 first begins.0 begins.2

    succeeds : IsSuccess comes.answer
    succeeds =
        waited_holds (λ o. IsSuccess o.answer) first.userdata first.what who.pid who.tid who.stage (get S.processes who.pid) (λ errno writes. refl)
        (λ writes awake. tt) (λ condvar condvar_word lock lock_word condvar_scope lock_scope own is there. tt)

    pub lock_lacks : (given : Answer) (T : State) → given ≡ answer.Reply (refused Nomem) → T ≡ tick S → IsStep constants S who call given T
    lock_lacks given T lacks left =
        lack_is_step constants S T who call given (ap takes_memory begins.1 ∙ poll_takes_memory (first ∷ begins.0))
        (subst (λ (o : Outcome). IsSuccess o.answer) (sym outcome_is) succeeds) lacks left

    pub lock_replies : (reply : Reply) (T : State) → IsAnswered comes (tick S) T (answer.Reply reply) → LacksNoMemory constants S who call (answer.Reply reply) T
    lock_replies reply T done =
        done_exactly constants S T who call reply
        (answered_as comes (outcome_by constants (whole (tick S)) who call) (tick S) T (answer.Reply reply) (sym outcome_is) done)

    -- its thread may wait in it
    pub lock_may : may_wait call ≡ true
    lock_may = ap may_wait begins.1 ∙ may_by (begins_with_lock (first ∷ begins.0)) first begins.0

    step_is : outcome constants S who call ≡ comes
    step_is = outcome_reads constants S who call ∙ outcome_is

    pub lock_parks : (writes : WordWrites) (U : State) → IsAnswered comes (tick S) U (answer.Parked writes) → is_parked (step_answer constants S who call) ≡ true
    lock_parks writes U done = ap (λ (o : Outcome). is_parked o.answer) step_is ∙ ap is_parked (sym done.0)

    module _ (valid : IsValid S) (there : IsSome (thread_of S who.pid who.tid)) where
      -- what is left of the process is valid
      still : IsValid (put_all comes.updates (tick S))
      still =
          let own = owner S who.pid who.tid there in
          own_valid (tick S) who.pid own.0 own.1 comes.updates
          (subst (λ o. OnlyOwn who.pid own.0 (does o).updates) (sym own.1) (waited_only first.userdata first.what who.pid who.tid who.stage own.0))
          (tick_valid S valid)

      -- its thread waits in a copy of the call
      pub lock_waits : (writes : WordWrites) (kept : Call) (U T : State) → kept ≡ call → IsAnswered comes (tick S) U (answer.Parked writes)
          → U.clock ≡ S.clock + 1000 → T ≡ with_thread U who.pid who.tid (waiting constants kept who U.clock) → LacksNoMemory constants S who call (answer.Parked writes) T
      lock_waits writes kept U T same done moment waits =
          let thread : Thread = waiting constants call who (S.clock + 1000) in
          let left : State = put_all comes.updates (tick S) in
          let asleep : State = with_thread left who.pid who.tid thread in
          let now : U ≡ left = done.1 ∙ release_valid left still in (
            done.0 ∙ ap (λ (o : Outcome). o.answer) (sym step_is),
            waits ∙ (λ i. with_thread (now i) who.pid who.tid (waiting constants (same i) who (moment i)))
                ∙ sym (release_valid asleep (with_valid left who.pid who.tid thread (waiting_may constants call who (S.clock + 1000) lock_may) still))
                ∙ ap (λ a. release (waits_if a who thread left)) done.0
                ∙ ap (λ (o : Outcome). release (waits_if o.answer who thread (put_all o.updates (tick S)))) (sym step_is),
          )

-- ---- the call in which a woken thread waits on

lock_by_word : (word : ℕ) (what : What) → is_of_lock (with_lock_word word what) ≡ is_of_lock what
lock_by_word word (Condvar condvar condvar_word lock lock_word condvar_scope lock_scope) = refl
lock_by_word word (LockRdlock lock old scope) = refl
lock_by_word word (LockWrlock lock old scope) = refl
lock_by_word word other = refl

-- it waits for a lock with any word of that
pub same_stage : (word : ℕ) (call : Call) → (meaning_of (with_word word call)).by_stage ≡ (meaning_of call).by_stage
same_stage word (Poll (first ∷ rest)) =
    poll_by_stage (record first { what = with_lock_word word first.what } ∷ rest) ∙ lock_by_word word first.what ∙ sym (poll_by_stage (first ∷ rest))
same_stage word other = refl

-- a thread that is ready and waits on does in the call that is kept for it
pub queues_ahead : (constants : Constants) (S : State) (who : Who) (call : Call) (word : ℕ) → WaitsIn S who call → is_ready constants S who.pid who.tid ≡ true
    → is_parked (step_answer constants (resumed S who) who (with_word word call)) ≡ true
    → call_ahead (wake.Plain word) (thread_of S who.pid who.tid) ≡ Some (with_word word call)
queues_ahead constants S who call word waits ready parked =
    let queues : may_queue call (Some waits.1) ≡ true =
    ap (may_queue call) (sym waits.2)
    ∙ wake_ends_wait constants S who call word (step_answer constants (resumed S who) who (with_word word call))
    (step_state constants (resumed S who) who (with_word word call)) waits ready (inl (refl, refl)) parked in
    ap (call_ahead (wake.Plain word)) waits.3 ∙ ap (λ b. if b then Some (with_word word call) else None) queues
