-- Threads that are ready, and the least deadline.
--     ready_stays      a thread that is ready stays ready
--     due_is_ready      it is ready once its deadline has come
--     parking_is_allowed, parking_keeps, parking_changes      calls in which threads wait
--     least_is_least, least_is_soon, idle_jumps, jump_readies      idle jumps
use Rattle.std.proofs.Common.{◌≡◌, ℕ, ◌+◌, ◌^◌, ◌==◌, ◌<◌, ◌≤◌, Bool, true, false, not, inl, inr, [], ◌∷◌, Option, Some, None, refl, sym, ap, subst, ◌∙◌, arith}
use Rattle.std.proofs.lemmas.Bool.{eq-eqb}
use Rattle.std.specs.Prelude.{if◌then◌else◌}
use Rattle.std.specs.Option.{option_map}
use Rattle.std.specs.Ordering.{nat_cmp}
use Rattle.std.specs.FinMap.{FinMap, get, insert}
use Rattle.abi_types.specs.declared.call.Call.{Call}
use Rattle.abi_types.specs.declared.constants.Constants.{Constants}
use Rattle.abi_types.specs.declared.reply.Answer.{Answer}
use Rattle.abi_types.specs.declared.reply.Answer.TheVariants as answer
use Rattle.abi_types.specs.declared.reply.WordWrite.{WordWrite}
use Rattle.abi_types.specs.declared.reply.WordWrites.{WordWrites}
use Rattle.abi_types.specs.declared.reply.WordWrites.TheVariants.{Two}
use Rattle.abi_types.specs.declared.thread.Stage.{Stage}
use Rattle.abi_types.specs.declared.thread.Stage.TheVariants.{Begun, Signalled, Queued, Granted}
use Rattle.abi_types.specs.declared.thread.Thread.{Thread}
use Rattle.abi_types.specs.declared.thread.Thread.TheVariants.{Runnable, Waits}
use Rattle.abi_types.specs.declared.who.Who.{Who}
use Rattle.maps.specs.Closure.{get-changed}
use Rattle.maps.specs.Maps.{get-insert-same, get-insert-other, same_around}
use Rattle.kernel_model.specs.Calls.{meaning_of, refusal, refusal_of, takes_memory}
use Rattle.kernel_model.specs.Deadlines.{idle_state, is_due, jumped_to, least_deadline, process_until, until_of}
use Rattle.kernel_model.specs.Families.Locks.{handed_own}
use Rattle.kernel_model.specs.Meaning.{Meaning}
use Rattle.kernel_model.specs.Outcome.{is_parked}
use Rattle.kernel_model.specs.OwnChanges.{begins_to_sleep}
use Rattle.kernel_model.specs.Proper.{IsProper, SetsWaiters, handed_on, nothing_set}
use Rattle.kernel_model.specs.Release.{release}
use Rattle.kernel_model.specs.State.{State, ProcessState, Table, put_all, set_process, thread_in, thread_of}
use Rattle.kernel_model.specs.Step.{tick, outcome, outcome_on, outside, step_answer, step_state, unless, unreleased, IsStep}
use Rattle.kernel_model.specs.Valid.{IsNearlyValid, IsValid}
use Rattle.kernel_model.specs.View.{View, whole}
use Rattle.kernel_model.specs.WaitLaws.{asleep, at_moment, parked, with_changed, IsLeastDeadline, JumpsTo, ParkingKeeps, WaitsUntil}
use Rattle.kernel_model.specs.Waits.{deadline_at, deadline_of, has_left, may_wait, resumed, waiting, waits_if, with_thread, HasDeadline, HasDeadlines, MayWait, WaitsIn}
use Rattle.kernel_model.specs.Wakes.{answer_now, goes_on_at, is_done_now, is_ready, is_ready_as}
use Rattle.kernel_model.proofs.Calls.{proper}
use Rattle.kernel_model.proofs.Deadlines.{due_at, due_later, jump_goes_on, jump_is_bounded, jump_reaches, soon_is, soon_is_soon, soon_kept}
use Rattle.kernel_model.proofs.Earliest.{earliest_least, earliest_none, earliest_there}
use Rattle.kernel_model.proofs.Parking.{denied_is_not_parked, parks_only, sets_none, waiting_may, waits_only}
use Rattle.kernel_model.proofs.Parts.{number_apart}
use Rattle.kernel_model.proofs.Steps.{unreleased_valid}
use Rattle.kernel_model.proofs.Tests.{none_is_no, not_true, same_some}
use Rattle.kernel_model.proofs.Threading.{with_valid}
use Rattle.kernel_model.proofs.Valids.{moment_valid, release_valid, tick_nearly_valid, tick_valid}

-- ---- a call that waits

-- the view at another moment
abbrev viewed_at : View → ℕ → View
viewed_at v moment = record v { clock = moment }

-- a call that waits may, and so it has waited before
waits_before : (m : Meaning) → IsProper m → (constants : Constants) (v : View) (who : Who) (table : Table) (before : ℕ) → before ≤ v.clock
    → is_parked (m.effect constants v who table).answer ≡ true → is_parked (m.effect constants (viewed_at v before) who table).answer ≡ true
waits_before m p constants v who table before earlier waits =
    let o = m.effect constants v who table in
    let may = waits_only m.may_wait who.pid (v.process who.pid) o _ (p.plain constants v who table) (denied_is_not_parked m.errors (m.outside v table) o) waits in
    (p.waits may.0).patient constants v who table before earlier waits

parked_before : (constants : Constants) (v : View) (who : Who) (call : Call) (t : Option Table) (before : ℕ) → before ≤ v.clock
    → is_parked (outcome_on constants v who call t).answer ≡ true → is_parked (outcome_on constants (viewed_at v before) who call t).answer ≡ true
parked_before constants v who call None before earlier waits = waits
parked_before constants v who call (Some table) before earlier waits =
    elim (refusal table call) as (λ r. is_parked (unless r ((meaning_of call).effect constants v who table)).answer ≡ true
    → is_parked (unless r ((meaning_of call).effect constants (viewed_at v before) who table)).answer ≡ true) [
      | None ↦ λ w. waits_before (meaning_of call) (proper call) constants v who table before earlier w
      | Some reply ↦ λ w. w
    ] waits

-- ---- a call that is done

not_not : (b : Bool) → not b ≡ true → b ≡ false
not_not true h = absurd (not_true h)
not_not false h = refl

done_later : (before later : Bool) → (later ≡ true → before ≡ true) → not before ≡ true → not later ≡ true
done_later before true more done = absurd (not_true (sym (not_not before done) ∙ more refl))
done_later before false more done = refl

pub done_stays : (constants : Constants) (S : State) (who : Who) (call : Call) (later : ℕ) → S.clock ≤ later → is_done_now constants S who call ≡ true
    → is_done_now constants (at_moment S later) who call ≡ true
done_stays constants S who call later after done =
    let R = resumed S who in
    done_later (is_parked (answer_now constants R who call)) (is_parked (answer_now constants (at_moment R later) who call))
    (parked_before constants (whole (at_moment R later)) who call (get S.tables who.pid) S.clock after) done

-- who goes on for the moment goes on at each later one
goes_on_later : (now later : ℕ) (until : Option ℕ) (stage : Stage) → now ≤ later → goes_on_at stage (is_due now until) ≡ true
    → goes_on_at stage (is_due later until) ≡ true
goes_on_later now later until Begun after goes = due_later now later until after goes
goes_on_later now later until Signalled after goes = refl
goes_on_later now later until (Queued at late) after goes = absurd (not_true goes)
goes_on_later now later until (Granted late) after goes = refl

-- who waits so
abbrev waits_by : ℕ → ℕ → ℕ → Stage → Who
waits_by p t since stage = record { pid = p; tid = t; since = since; stage = Some stage }

ready_as_stays : (constants : Constants) (S : State) (p t later : ℕ) (o : Option Thread) → S.clock ≤ later → is_ready_as constants S p t o ≡ true
    → is_ready_as constants (at_moment S later) p t o ≡ true
ready_as_stays constants S p t later None after ready = absurd (not_true ready)
ready_as_stays constants S p t later (Some Runnable) after ready = absurd (not_true ready)
ready_as_stays constants S p t later (Some (Waits call since until stage)) after ready =
    elim (meaning_of call).by_stage as (λ b. (if b then goes_on_at stage (is_due S.clock until) else is_done_now constants S (waits_by p t since stage) call) ≡ true
    → (if b then goes_on_at stage (is_due later until) else is_done_now constants (at_moment S later) (waits_by p t since stage) call) ≡ true) [
      | true ↦ λ goes. goes_on_later S.clock later until stage after goes
      | false ↦ λ done. done_stays constants S (waits_by p t since stage) call later after done
    ] ready

pub ready_stays : (constants : Constants) (S : State) (p t later : ℕ) → is_ready constants S p t ≡ true → S.clock ≤ later
    → is_ready constants (at_moment S later) p t ≡ true
ready_stays constants S p t later ready after = ready_as_stays constants S p t later (thread_of S p t) after ready

-- what it is to be ready, of a thread that waits in this call, until this moment, and whose wait has come so far
abbrev pub ready_by : Constants → State → Who → Call → Option ℕ → Stage → Bool
ready_by constants S who call until stage =
    if (meaning_of call).by_stage then goes_on_at stage (is_due S.clock until) else is_done_now constants S who call

pub ready_is : (constants : Constants) (S : State) (who : Who) (call : Call) (kept : WaitsIn S who call)
    → is_ready constants S who.pid who.tid ≡ ready_by constants S who call kept.0 kept.1
ready_is constants S who call kept =
    ap (is_ready_as constants S who.pid who.tid) kept.3
    ∙ ap (λ s. ready_by constants S (record { pid = who.pid; tid = who.tid; since = who.since; stage = s }) call kept.0 kept.1) (sym kept.2)

-- ---- a deadline that has come

due_on : (constants : Constants) (v : View) (who : Who) (call : Call) (t : Option Table) → may_wait call ≡ true → (meaning_of call).by_stage ≡ false
    → is_due v.clock (deadline_of constants call who.since) ≡ true → is_parked (outcome_on constants v who call t).answer ≡ false
due_on constants v who call None may by due = refl
due_on constants v who call (Some table) may by due =
    elim (refusal table call) as (λ r. is_parked (unless r ((meaning_of call).effect constants v who table)).answer ≡ false) [
      | None ↦ ((proper call).waits may).due by constants v who table due
      | Some reply ↦ refl
    ]

-- a deadline that a thread has is its call's
counts_still : (left : Bool) (deadline : Option ℕ) (until : ℕ) → Some until ≡ (if left then None else deadline) → Some until ≡ deadline
counts_still true deadline until is = absurd (none_is_no until (sym is))
counts_still false deadline until is = is

-- where a thread has a deadline and it has come, it goes on
goes_on_due : (constants : Constants) (call : Call) (since now until : ℕ) (stage : Stage) → Some until ≡ deadline_at constants call since stage
    → is_due now (Some until) ≡ true → goes_on_at stage (is_due now (Some until)) ≡ true
goes_on_due constants call since now until Begun is due = due
goes_on_due constants call since now until Signalled is due = refl
goes_on_due constants call since now until (Queued at late) is due = absurd (none_is_no until (sym is))
goes_on_due constants call since now until (Granted late) is due = refl

pub due_is_ready : (constants : Constants) (S : State) (p t : ℕ) (call : Call) (since until : ℕ) (stage : Stage) → IsValid S → HasDeadlines constants S
    → thread_of S p t ≡ Some (Waits call since (Some until) stage) → until ≤ S.clock → is_ready constants S p t ≡ true
due_is_ready constants S p t call since until stage valid deadlines there come =
    let who : Who = waits_by p t since stage in
    let may : may_wait call ≡ true = (subst MayWait there (valid.nearly.waits p t)).0 in
    let has : Some until ≡ deadline_at constants call since stage = subst (HasDeadline constants) there (deadlines p t) in
    let due : is_due S.clock (Some until) ≡ true = due_at S.clock until come in
    ready_is constants S who call (Some until, stage, refl, there)
    ∙ elim (meaning_of call).by_stage as (λ b. (meaning_of call).by_stage ≡ b
    → (if b then goes_on_at stage (is_due S.clock (Some until)) else is_done_now constants S who call) ≡ true) [
      | true ↦ λ _. goes_on_due constants call since S.clock until stage has due
      | false ↦ λ by. ap not (due_on constants (whole (resumed S who)) who call (get S.tables p) may by
          (ap (is_due S.clock) (sym (counts_still (has_left call stage) (deadline_of constants call since) until has)) ∙ due))
    ] refl

-- ---- calls in which threads wait

step_parks : (constants : Constants) (S : State) (who : Who) (call : Call) (writes : WordWrites) (T : State) → IsStep constants S who call (answer.Parked writes) T
    → (answer.Parked writes ≡ step_answer constants S who call) × (T ≡ step_state constants S who call)
step_parks constants S who call writes T (inl done) = done
step_parks constants S who call writes T (inr lacking) = absurd (not_true (sym (ap is_parked lacking.1)))

pub parking_is_allowed : (constants : Constants) (S : State) (who : Who) (call : Call) (writes : WordWrites) (T : State)
    → IsStep constants S who call (answer.Parked writes) T
    → (may_wait call ≡ true) × (takes_memory call ≡ true) × (refusal_of call (get S.tables who.pid) ≡ None) × (outside S who call ≡ None)
parking_is_allowed constants S who call writes T step =
    let only = parks_only constants S who call (sym (ap is_parked (step_parks constants S who call writes T step).0)) in
    (only.may, ((proper call).waits only.may).keeps, only.unrefused, only.inside)

-- a call in which its thread waits, and not at a condition variable, changes only the clock and this thread
parks_alone : (constants : Constants) (S : State) (who : Who) (call : Call) (writes : WordWrites) (T : State)
    → IsStep constants S who call (answer.Parked writes) T → IsValid S → begins_to_sleep (answer.Parked writes) ≡ false → T ≡ parked constants S who call
parks_alone constants S who call writes T step valid awake =
    let done = step_parks constants S who call writes T step in
    let only = parks_only constants S who call (sym (ap is_parked done.0)) in
    let thread = waiting constants call who (S.clock + 1000) in
    let unset : (outcome constants S who call).updates ≡ [] =
    sets_none who.pid (get S.processes who.pid) (outcome constants S who call) only.sets (sym (ap begins_to_sleep done.0) ∙ awake) in
    done.1 ∙ ap (λ a. release (waits_if a who thread (put_all (outcome constants S who call).updates (tick S)))) (sym done.0)
    ∙ ap (λ us. release (with_thread (put_all us (tick S)) who.pid who.tid thread)) unset
    ∙ release_valid (with_thread (tick S) who.pid who.tid thread)
    (with_valid (tick S) who.pid who.tid thread (waiting_may constants call who (S.clock + 1000) only.may) (tick_valid S valid))

-- the address of the lock that is handed on
abbrev lock_of : Answer → ℕ
lock_of (answer.Parked (Two condvar lock)) = lock.address
lock_of _ = 0

-- where a process is there, changed as the map with what it becomes put in
changed_is : (f : ProcessState → ProcessState) (S : State) (p : ℕ) (own : ProcessState) → get S.processes p ≡ Some own
    → with_changed S p f ≡ put_all (set_process p (f own) ∷ []) S
changed_is f S p own there =
    let processes : (with_changed S p f).processes ≡ insert S.processes p (f own) =
    same_around _ _ p
    (get-changed (λ q was. if q == p then f was else was) S.processes p
    ∙ ap (λ b. option_map (λ was. if b then f was else was) (get S.processes p)) (eq-eqb p p refl) ∙ ap (option_map f) there
    ∙ sym (get-insert-same S.processes p (f own)))
    (λ q apart. get-changed (λ k was. if k == p then f was else was) S.processes q
    ∙ ap (λ b. option_map (λ was. if b then f was else was) (get S.processes q)) (number_apart q p (λ e. apart (sym e)))
    ∙ unchanged f (get S.processes q) ∙ sym (get-insert-other S.processes p (f own) q apart)) in
    λ i. record S { processes = processes i } where
      unchanged : (f : ProcessState → ProcessState) (o : Option ProcessState) → option_map (λ x. if false then f x else x) o ≡ o
      unchanged f None = refl
      unchanged f (Some x) = refl

-- and one in which it begins to wait at a condition variable hands its lock on
parks_asleep : (constants : Constants) (S : State) (who : Who) (call : Call) (condvar lock : WordWrite) (T : State)
    → IsStep constants S who call (answer.Parked (Two condvar lock)) T → IsValid S → T ≡ asleep constants S who call lock.address
parks_asleep constants S who call condvar lock T step valid =
    let done = step_parks constants S who call (Two condvar lock) T step in
    by_sets done (parks_only constants S who call (sym (ap is_parked done.0))).sets where
      thread : Thread
      thread = waiting constants call who (S.clock + 1000)

      by_sets : (answer.Parked (Two condvar lock) ≡ step_answer constants S who call) × (T ≡ step_state constants S who call)
          → SetsWaiters who.pid (get S.processes who.pid) (outcome constants S who call) → T ≡ asleep constants S who call lock.address
      by_sets done (nothing_set awake none) = absurd (not_true (sym awake ∙ sym (ap begins_to_sleep done.0)))
      by_sets done (handed_on one other was is there sets) =
          let new : ProcessState = handed_own lock.address was in
          let same : lock.address ≡ other.address = ap lock_of (done.0 ∙ is) in
          let updates : (outcome constants S who call).updates ≡ set_process who.pid new ∷ [] =
          sets ∙ ap (λ n. set_process who.pid (handed_own n was) ∷ []) (sym same) in
          let V : State = with_thread (put_all (set_process who.pid new ∷ []) (tick S)) who.pid who.tid thread in
          let left : unreleased constants S who call ≡ V =
          ap (λ a. waits_if a who thread (put_all (outcome constants S who call).updates (tick S))) (sym done.0)
          ∙ ap (λ us. with_thread (put_all us (tick S)) who.pid who.tid thread) updates in
          let valid_then : IsValid V = record {
            nearly = subst IsNearlyValid left (unreleased_valid constants S who call (tick_nearly_valid S valid.nearly));
            held = valid.held;
            kept = valid.kept;
            going = valid.going;
          } in
          done.1 ∙ ap release left ∙ release_valid V valid_then
          ∙ ap (λ U. with_thread U who.pid who.tid thread) (sym (changed_is (handed_own lock.address) (tick S) who.pid was there))

-- it changes nothing but the clock and what processes have of their own
pub parking_changes : (constants : Constants) (S : State) (who : Who) (call : Call) (writes : WordWrites) (T : State)
    → IsStep constants S who call (answer.Parked writes) T → IsValid S
    → (processes : FinMap nat_cmp ProcessState) × (T ≡ record (tick S) { processes = processes })
parking_changes constants S who call (Two condvar lock) T step valid =
    ((asleep constants S who call lock.address).processes, parks_asleep constants S who call condvar lock T step valid)
parking_changes constants S who call writes T step valid =
    ((parked constants S who call).processes, parks_alone constants S who call writes T step valid refl)

pub parking_keeps : ParkingKeeps
parking_keeps = record { alone = parks_alone; asleep = parks_asleep }

-- ---- the least deadline

-- a thread of a state is one of a process
process_with : (t : ℕ) (thread : Thread) (o : Option ProcessState) → thread_in (option_map (λ (own : ProcessState). own.threads) o) t ≡ Some thread
    → (own : ProcessState) × (o ≡ Some own) × (get own.threads t ≡ Some thread)
process_with t thread None there = absurd (none_is_no thread there)
process_with t thread (Some own) there = (own, refl, there)

-- a thread that waits until a moment which counts, and the moment until which it waits
until_where : (S : State) (p t until : ℕ) → WaitsUntil S p t until → (thread : Thread) × (thread_of S p t ≡ Some thread) × (until_of thread ≡ Some until)
until_where S p t until waits = (Waits waits.0 waits.1 (Some until) waits.2, waits.3, soon_kept until waits.4)

waits_where : (S : State) (p t until : ℕ) (thread : Thread) → thread_of S p t ≡ Some thread → until_of thread ≡ Some until → WaitsUntil S p t until
waits_where S p t until Runnable there is = absurd (none_is_no until is)
waits_where S p t until (Waits call since other stage) there is =
    (call, since, stage, there ∙ ap (λ o. Some (Waits call since o stage)) (soon_is other until is), soon_is_soon other until is)

least_of : (S : State) (o : Option ℕ) → least_deadline S ≡ o → IsLeastDeadline S o
least_of S None none = λ p t other waits. (
    let one = until_where S p t other waits in
    let own = process_with t one.0 (get S.processes p) one.1 in
    let no = earliest_none until_of own.0.threads (earliest_none process_until S.processes none p own.0 own.1) t one.0 own.2 in
    none_is_no other (sym no ∙ one.2))
least_of S (Some until) is = (
  (
      let own = earliest_there process_until S.processes until is in
      let one = earliest_there until_of own.1.threads until own.3 in (
        own.0,
        one.0,
        waits_where S own.0 one.0 until one.1
            (ap (λ (o : Option ProcessState). thread_in (option_map (λ (x : ProcessState). x.threads) o) one.0) own.2 ∙ one.2) one.3,
      )
      ),
  λ p t other waits. (
      let one = until_where S p t other waits in
      let own = process_with t one.0 (get S.processes p) one.1 in
      let inner = earliest_least until_of own.0.threads t one.0 other own.2 one.2 in
      let outer = earliest_least process_until S.processes p own.0 inner.0 own.1 inner.1 in
      let same : outer.0 ≡ until = same_some outer.0 until (sym outer.1 ∙ is) in
      omega (arith, inner.2, outer.2, same)),
)

pub least_is_least : (S : State) → IsLeastDeadline S (least_deadline S)
least_is_least S = least_of S (least_deadline S) refl

pub least_is_soon : (S : State) (until : ℕ) → least_deadline S ≡ Some until → until < 2 ^ 62
least_is_soon S until is = (least_of S (Some until) is).0.2.4

-- ---- idle jumps

pub idle_jumps : (S : State) → JumpsTo S (idle_state S)
idle_jumps S = record {
  only = refl;
  forward = jump_goes_on S.clock (least_deadline S);
  bounded = jump_is_bounded S.clock (least_deadline S);
}

pub idle_valid : (S : State) → IsValid S → IsValid (idle_state S)
idle_valid S valid = moment_valid S (jumped_to S.clock (least_deadline S)) valid

pub jump_readies : (constants : Constants) (S : State) (until : ℕ) → IsValid S → HasDeadlines constants S → least_deadline S ≡ Some until
    → (p : ℕ) × (t : ℕ) × (is_ready constants (idle_state S) p t ≡ true)
jump_readies constants S until valid deadlines is =
    let one = (least_of S (Some until) is).0 in (
      one.0,
      one.1,
      due_is_ready constants (idle_state S) one.0 one.1 one.2.0 one.2.1 until one.2.2 (idle_valid S valid) deadlines one.2.3
          (subst (λ o. until ≤ jumped_to S.clock o) (sym is) (jump_reaches S.clock until)),
    )
