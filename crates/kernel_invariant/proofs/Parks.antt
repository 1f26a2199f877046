-- Threads that begin to wait, and those that run again.
--     owner      the process that a thread is of
--     set_process_is, set_process_none      a thread that does something else, by its process
--     set_after, after_kept      a thread that does something else, as its process with that put in, and that the state is kept
--     parks_may, parked_left, parked_is_step, park_lacks_is_step      a call in which its thread waits
--     same_kept, waits_in_kept      the call that a thread waits in
use Rattle.std.proofs.Common.{◌≡◌, ℕ, ◌+◌, Bool, true, false, List, [], ◌∷◌, Option, None, Some, IsSome, inl, inr, refl, sym, ap, subst, ◌∙◌}
use Rattle.std.specs.Prelude.{if◌then◌else◌}
use Rattle.std.specs.Ordering.{nat_cmp}
use Rattle.std.specs.Option.{option_map}
use Rattle.std.specs.FinMap.{FinMap, get, insert}
use Rattle.abi_base.specs.declared.errno.Errno.TheVariants.{Nomem}
use Rattle.abi_structures.specs.declared.events.Subscription.{Subscription}
use Rattle.abi_types.specs.Families.{is_anonymous}
use Rattle.abi_types.specs.declared.call.Call.{Call}
use Rattle.abi_types.specs.declared.call.Call.TheVariants as call
use Rattle.abi_types.specs.declared.constants.Constants.{Constants}
use Rattle.abi_types.specs.declared.reply.Answer.{Answer}
use Rattle.abi_types.specs.declared.reply.Answer.TheVariants as answer
use Rattle.abi_types.specs.declared.reply.WordWrites.{WordWrites}
use Rattle.abi_types.specs.declared.status.Status.TheVariants.{Live}
use Rattle.abi_types.specs.declared.thread.Stage.{Stage}
use Rattle.abi_types.specs.declared.thread.Thread.{Thread}
use Rattle.abi_types.specs.declared.thread.Thread.TheVariants.{Runnable, Waits}
use Rattle.abi_types.specs.declared.who.Who.{Who}
use Rattle.maps.specs.Maps.{get-insert-same, get-insert-other, same_around}
use Rattle.kernel_model.specs.Calls.{meaning_of}
use Rattle.kernel_model.specs.Families.FileMeaning.{on_open}
use Rattle.kernel_model.specs.Families.Locks.{handed_own, with_threads}
use Rattle.kernel_model.specs.Families.MemoryCalls.{map_row, map_zeros, mapping}
use Rattle.kernel_model.specs.Families.Numbers.{made_more}
use Rattle.kernel_model.specs.Families.Polls.{begins_with_lock, poll_by}
use Rattle.kernel_model.specs.Meaning.{Meaning}
use Rattle.kernel_model.specs.Outcome.{Outcome, IsSuccess, is_parked}
use Rattle.kernel_model.specs.OwnChanges.{keeps_own, LeavesOwn}
use Rattle.kernel_model.specs.Proper.{handed_on, nothing_set, SetsWaiters}
use Rattle.kernel_model.specs.Release.{release}
use Rattle.kernel_model.specs.Reply.{refused}
use Rattle.kernel_model.specs.State.{State, ProcessState, put_all, thread_in, thread_of}
use Rattle.kernel_model.specs.Step.{outcome, outcome_by, step_answer, tick, IsStep}
use Rattle.kernel_model.specs.Valid.{IsValid}
use Rattle.kernel_model.specs.View.{whole}
use Rattle.kernel_model.specs.Waits.{may_wait, thread_set, waiting, waits_if, with_thread, MayWait, WaitsIn}
use Rattle.kernel_model.proofs.Calls.{proper}
use Rattle.kernel_model.proofs.Outcomes.{outcome_holds, outcome_reads}
use Rattle.kernel_model.proofs.Parking.{parks_only, waiting_may, ParksOnly}
use Rattle.kernel_model.proofs.Parts.{own_stays}
use Rattle.kernel_model.proofs.Tests.{none_is_no, not_true, same_some}
use Rattle.kernel_model.proofs.Threading.{with_apart, with_here, with_valid}
use Rattle.kernel_model.proofs.Valids.{release_valid, tick_valid}
use Rattle.kernel_parts.specs.Waiting.{kept_in}
use Rattle.kernel_invariant.specs.Held.{IsKept}
use Rattle.kernel_invariant.specs.Waiting.{waiter}
use Rattle.kernel_invariant.proofs.Leaving.{process_again, with_process}

-- ---- a thread's process

owner_by : (t : ℕ) (o : Option ProcessState) → IsSome (thread_in (option_map (λ (own : ProcessState). own.threads) o) t)
    → (own : ProcessState) × (o ≡ Some own) × IsSome (get own.threads t)
owner_by t None there = absurd (not_true there)
owner_by t (Some own) there = (own, refl, there)

pub owner : (S : State) (p t : ℕ) → IsSome (thread_of S p t) → (own : ProcessState) × (get S.processes p ≡ Some own) × IsSome (get own.threads t)
owner S p t there = owner_by t (get S.processes p) there

-- what a thread does, by its process
pub thread_by : (S : State) (p t : ℕ) (own : ProcessState) → get S.processes p ≡ Some own → thread_of S p t ≡ get own.threads t
thread_by S p t own there = ap (λ (o : Option ProcessState). thread_in (option_map (λ (x : ProcessState). x.threads) o) t) there

pub no_thread_by : (S : State) (p t : ℕ) → get S.processes p ≡ None → thread_of S p t ≡ None
no_thread_by S p t none = ap (λ (o : Option ProcessState). thread_in (option_map (λ (x : ProcessState). x.threads) o) t) none

module _ (S : State) (p t : ℕ) (thread : Thread) where
  pub set_process_is : (own : ProcessState) → get S.processes p ≡ Some own
      → with_thread S p t thread ≡ record S { processes = insert S.processes p (thread_set t thread own) }
  set_process_is own there =
      let processes : (with_thread S p t thread).processes ≡ insert S.processes p (thread_set t thread own) =
      same_around _ _ p (with_here S p t thread ∙ ap (option_map (thread_set t thread)) there ∙ sym (get-insert-same S.processes p (thread_set t thread own)))
      (λ q apart. with_apart S p t thread q apart ∙ sym (get-insert-other S.processes p (thread_set t thread own) q apart)) in
      λ i. record S { processes = processes i }

  pub set_process_none : get S.processes p ≡ None → with_thread S p t thread ≡ S
  set_process_none none =
      let processes : (with_thread S p t thread).processes ≡ S.processes =
      same_around _ _ p (with_here S p t thread ∙ ap (option_map (thread_set t thread)) none ∙ sym none) (with_apart S p t thread) in
      λ i. record S { processes = processes i }

  pub set_kept : (counts : FinMap nat_cmp ℕ) → MayWait (Some thread) → IsKept S counts → IsKept (with_thread S p t thread) counts
  set_kept counts may kept = record {
    valid = with_valid S p t thread may kept.valid;
    counted = kept.counted;
    few = kept.few;
    small = kept.small;
    processes = kept.processes;
  }

-- the state with another process in place of the one that was there
module _ (S : State) (p t : ℕ) (thread : Thread) (own new : ProcessState) (there : get S.processes p ≡ Some own) where
  abbrev pub after : State
  after = record S { processes = insert S.processes p new }

  pub set_after : new ≡ thread_set t thread own → after ≡ with_thread S p t thread
  set_after same = (λ i. record S { processes = insert S.processes p (same i) }) ∙ sym (set_process_is S p t thread own there)

  pub after_kept : (counts : FinMap nat_cmp ℕ) → MayWait (Some thread) → IsKept S counts → new ≡ thread_set t thread own → IsKept after counts
  after_kept counts may kept same = subst (λ T. IsKept T counts) (sym (set_after same)) (set_kept S p t thread counts may kept)

-- ---- a call in which its thread waits

-- what such a call sets of its process is what the process had, where it changes nothing of it
again_by : (S : State) (p t lock : ℕ) (was : ProcessState) (given : Answer) → get S.processes p ≡ Some was → get S.statuses p ≡ Some Live
    → LeavesOwn keeps_own p t given S (with_process S p (handed_own lock was)) → with_process S p (handed_own lock was) ≡ S
again_by S p t lock was given there live (inr ended) = absurd (ended.0 live)
again_by S p t lock was given there live (inl changed) =
    let new = handed_own lock was in
    let same : new ≡ made_more changed.0 was =
    same_some new (made_more changed.0 was) (sym (get-insert-same S.processes p new) ∙ changed.1 ∙ ap (option_map (made_more changed.0)) there) in
    let threads : new.threads ≡ was.threads = ap (λ (own : ProcessState). own.threads) same in
    (λ i. with_process S p (with_threads was (threads i))) ∙ process_again S p was there

unset_by : (S : State) (p t : ℕ) (o : Outcome) → SetsWaiters p (get S.processes p) o → get S.statuses p ≡ Some Live
    → LeavesOwn keeps_own p t o.answer S (put_all o.updates S) → put_all o.updates S ≡ S
unset_by S p t o (nothing_set awake none) live leaves = ap (λ us. put_all us S) none
unset_by S p t o (handed_on condvar lock was is there sets) live leaves =
    ap (λ us. put_all us S) sets
    ∙ again_by S p t lock.address was o.answer there live (subst (λ us. LeavesOwn keeps_own p t o.answer S (put_all us S)) sets leaves)

-- a call that may wait, and doesn't go by how far its wait has come, changes nothing of its process
by_first : (b : Bool) (subscriptions : List Subscription) → (poll_by b subscriptions).by_stage ≡ false → (poll_by b subscriptions).own ≡ keeps_own
by_first true [] events = refl
by_first true (first ∷ rest) events = absurd (not_true (sym events))
by_first false subscriptions events = refl

map_own : (one other : Meaning) (b : Bool) → one.own ≡ keeps_own → other.own ≡ keeps_own → (if b then one else other).own ≡ keeps_own
map_own one other true first second = first
map_own one other false first second = second

keeps_by : (c : Call) → may_wait c ≡ true → (meaning_of c).by_stage ≡ false → (meaning_of c).own ≡ keeps_own
keeps_by (call.Poll subscriptions) may events = by_first (begins_with_lock subscriptions) subscriptions events
keeps_by (call.MemMap place length prot flags fd offset) may events =
    map_own (map_zeros place) (on_open (map_row fd prot) (mapping place length offset)) (is_anonymous flags) refl refl
keeps_by (call.FdRead fd n) may events = refl
keeps_by (call.FdWrite fd bytes) may events = refl
keeps_by (call.SockRecv fd n room flags) may events = refl
keeps_by (call.SockSend fd bytes fds flags) may events = refl
keeps_by _ may events = absurd (not_true may)

module _ (constants : Constants) (S : State) (who : Who) (call : Call) (writes : WordWrites) (events : (meaning_of call).by_stage ≡ false)
    (live : get S.statuses who.pid ≡ Some Live) (answered : answer.Parked writes ≡ (outcome_by constants (whole (tick S)) who call).answer) where
  is_answer : answer.Parked writes ≡ step_answer constants S who call
  is_answer = answered ∙ ap (λ (o : Outcome). o.answer) (sym (outcome_reads constants S who call))

  only : ParksOnly constants S who call
  only = parks_only constants S who call (sym (ap is_parked is_answer))

  pub parks_may : may_wait call ≡ true
  parks_may = only.may

  -- nothing else is done
  leaves : LeavesOwn keeps_own who.pid who.tid (outcome constants S who call).answer (tick S) (put_all (outcome constants S who call).updates (tick S))
  leaves =
      outcome_holds (λ (o : Outcome). LeavesOwn keeps_own who.pid who.tid o.answer (tick S) (put_all o.updates (tick S))) constants S who call
      (λ reply refuses. inl (own_stays (get S.processes who.pid)))
      (λ table there. subst (λ change. LeavesOwn change who.pid who.tid ((meaning_of call).effect constants (whole (tick S)) who table).answer (tick S)
      (put_all ((meaning_of call).effect constants (whole (tick S)) who table).updates (tick S))) (keeps_by call only.may events)
      ((proper call).own constants (tick S) who table))

  unset : put_all (outcome constants S who call).updates (tick S) ≡ tick S
  unset = unset_by (tick S) who.pid who.tid (outcome constants S who call) only.sets live leaves

  pub parked_left : (U : State) → IsValid S → U ≡ release (put_all (outcome_by constants (whole (tick S)) who call).updates (tick S)) → U ≡ tick S
  parked_left U valid left =
      left ∙ ap (λ (o : Outcome). release (put_all o.updates (tick S))) (sym (outcome_reads constants S who call))
      ∙ ap release unset ∙ release_valid (tick S) (tick_valid S valid)

  pub parked_is_step : (U T : State) → IsValid S → U ≡ tick S → T ≡ with_thread U who.pid who.tid (waiting constants call who U.clock)
      → IsStep constants S who call (answer.Parked writes) T
  parked_is_step U T valid left waits =
      let thread : Thread = waiting constants call who (S.clock + 1000) in
      let asleep : State = with_thread (tick S) who.pid who.tid thread in
      let here : asleep ≡ release asleep =
      sym (release_valid asleep (with_valid (tick S) who.pid who.tid thread (waiting_may constants call who (S.clock + 1000) only.may) (tick_valid S valid))) in
      inl (
        is_answer,
        waits ∙ ap (λ (V : State). with_thread V who.pid who.tid (waiting constants call who V.clock)) left ∙ here
            ∙ ap (λ (V : State). release (with_thread V who.pid who.tid thread)) (sym unset)
            ∙ ap (λ a. release (waits_if a who thread (put_all (outcome constants S who call).updates (tick S)))) is_answer,
      )

  pub park_lacks_is_step : (U : State) (given : Answer) → U ≡ tick S → given ≡ answer.Reply (refused Nomem) → IsStep constants S who call given U
  park_lacks_is_step U given left lacks =
      inr ((((proper call).waits only.may).keeps, subst IsSuccess is_answer tt), lacks, left)

-- ---- the call that a thread waits in

kept_by : (o : Option Thread) (call : Call) (since : ℕ) (stage : Stage) → kept_in o ≡ Some (call, since, stage)
    → (until : Option ℕ) × (o ≡ Some (Waits call since until stage))
kept_by None call since stage is = absurd (none_is_no (call, since, stage) is)
kept_by (Some Runnable) call since stage is = absurd (none_is_no (call, since, stage) is)
kept_by (Some (Waits had made until come)) call since stage is =
    let same : (had, made, come) ≡ (call, since, stage) = same_some (had, made, come) (call, since, stage) is in
    (until, λ i. Some (Waits (same i).0 (same i).1 until (same i).2))

pub waits_in_kept : (S : State) (who : Who) (call : Call) (stage : Stage) → kept_in (thread_of S who.pid who.tid) ≡ Some (call, who.since, stage)
    → who.stage ≡ Some stage → WaitsIn S who call
waits_in_kept S who call stage is come =
    let kept = kept_by (thread_of S who.pid who.tid) call who.since stage is in
    (kept.0, stage, come, kept.1)

-- who waits is the one that was kept
pub same_kept : (S : State) (p t since made : ℕ) (stage come : Stage) (call had : Call) → Some (had, since, stage) ≡ kept_in (thread_of S p t)
    → WaitsIn S (waiter p t made come) call → (waiter p t since stage ≡ waiter p t made come) × (had ≡ call)
same_kept S p t since made stage come call had kept waits =
    let same : (had, since, stage) ≡ (call, made, waits.1) = same_some (had, since, stage) (call, made, waits.1) (kept ∙ ap kept_in waits.3) in
    let far : Some stage ≡ Some come = ap (λ (x : Call × ℕ × Stage). Some x.2) same ∙ sym waits.2 in
    ((λ i. record { pid = p; tid = t; since = (same i).1; stage = far i }), ap (λ (x : Call × ℕ × Stage). x.0) same)
