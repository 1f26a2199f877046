-- Threads that begin to wait.
--     begins_unready
--     parked_unready      before the call has ended
use Rattle.std.proofs.Common.{◌≡◌, ◌+◌, false, not, inl, inr, Option, None, Some, IsSome, refl, sym, ap, subst, ◌∙◌}
use Rattle.std.specs.Prelude.{if◌then◌else◌}
use Rattle.std.specs.Ordering.{nat_cmp}
use Rattle.std.specs.Option.{option_map}
use Rattle.std.specs.FinMap.{FinMap, get}
use Rattle.abi_types.specs.declared.call.Call.{Call}
use Rattle.abi_types.specs.declared.constants.Constants.{Constants}
use Rattle.abi_types.specs.declared.reply.Answer.TheVariants as answer
use Rattle.abi_types.specs.declared.reply.WordWrites.{WordWrites}
use Rattle.abi_types.specs.declared.status.Status.TheVariants.{Live}
use Rattle.abi_types.specs.declared.thread.Thread.{Thread}
use Rattle.abi_types.specs.declared.who.Who.{Who}
use Rattle.kernel_model.specs.Calls.{meaning_of, refusal}
use Rattle.kernel_model.specs.Deadlines.{is_due}
use Rattle.kernel_model.specs.Outcome.{Outcome, is_parked}
use Rattle.kernel_model.specs.Release.{lives}
use Rattle.kernel_model.specs.State.{State, ProcessState, Table, no_state, thread_of}
use Rattle.kernel_model.specs.Step.{outcome_by, step_answer, tick, IsStep}
use Rattle.kernel_model.specs.Valid.{IsValid}
use Rattle.kernel_model.specs.View.{whole}
use Rattle.kernel_model.specs.Waits.{deadline_at, stage_after, waiting, with_thread, HasDeadline, MayWait}
use Rattle.kernel_model.specs.Wakes.{goes_on_at, is_done_now, is_ready, is_ready_as}
use Rattle.kernel_model.proofs.Outcomes.{outcome_of_table, outcome_reads}
use Rattle.kernel_model.proofs.Parking.{parks_only, waiting_may}
use Rattle.kernel_model.proofs.Readiness.{parking_changes}
use Rattle.kernel_model.proofs.Steps.{step_moves_only}
use Rattle.kernel_model.proofs.Tests.{not_true}
use Rattle.kernel_model.proofs.WokenCalls.{parked_lasts}
use Rattle.kernel_parts.specs.Waiting.{is_over}
use Rattle.kernel_parts.proofs.Parked.{effect_parks}
use Rattle.kernel_parts.proofs.Polling.{over_is}
use Rattle.readiness_laws.specs.PlaceLaws.{BeginsUnready}
use Rattle.readiness_laws.proofs.Alike.{ready_by_any}
use Rattle.readiness_laws.proofs.Locality.{unless_alike}
use Rattle.readiness_laws.proofs.WatchedThreads.{here_with}

-- a call that its thread waits in isn't over by what it looked at as it was made
not_over : (constants : Constants) (S : State) (who : Who) (call : Call) (writes : WordWrites) → answer.Parked writes ≡ step_answer constants S who call
    → (meaning_of call).by_stage ≡ false → (o : Option Table) → get S.tables who.pid ≡ o → IsSome o
    → is_over constants S.opens S.chans S.statuses (S.clock + 1000) o who.since call ≡ false
not_over constants S who call writes answered plain None own some = absurd (not_true some)
not_over constants S who call writes answered plain (Some table) own some =
    ap not
    (unless_alike (refusal table call) _ _
    (effect_parks constants (record no_state { clock = S.clock + 1000; opens = S.opens; chans = S.chans; statuses = S.statuses })
    (record { pid = 0; tid = 0; since = who.since; stage = None }) table call plain
    ∙ sym (effect_parks constants (tick S) who table call plain))
    ∙ sym (ap (λ (o : Outcome). is_parked o.answer) (outcome_of_table constants S who call table own))
    ∙ sym (ap is_parked answered))

still_there : (waits : Thread) (o after : Option Thread) → IsSome o → after ≡ option_map (λ (thread : Thread). waits) o → after ≡ Some waits
still_there waits None after some is = absurd (not_true some)
still_there waits (Some thread) after some is = is

-- So the thread isn't ready where it waits in the call, and beside what processes have of their own only the clock has moved.
module _ (constants : Constants) (S : State) (who : Who) (call : Call) (writes : WordWrites) (answered : answer.Parked writes ≡ step_answer constants S who call)
    (plain : (meaning_of call).by_stage ≡ false) (valid : IsValid S) (live : get S.statuses who.pid ≡ Some Live) where
  unready_at : (processes : FinMap nat_cmp ProcessState)
      → thread_of (record (tick S) { processes = processes }) who.pid who.tid ≡ Some (waiting constants call who (S.clock + 1000))
      → is_ready constants (record (tick S) { processes = processes }) who.pid who.tid ≡ false
  unready_at processes waits =
      let T : State = record (tick S) { processes = processes } in
      let by : Who = record { pid = who.pid; tid = who.tid; since = who.since; stage = Some (stage_after call who.stage (S.clock + 1000)) } in
      let until = deadline_at constants call who.since (stage_after call who.stage (S.clock + 1000)) in
      ap (is_ready_as constants T who.pid who.tid) waits
      ∙ ap (λ b. if b then goes_on_at (stage_after call who.stage (S.clock + 1000)) (is_due T.clock until) else is_done_now constants T by call) plain
      ∙ sym (over_is constants T by call plain)
      ∙ not_over constants S who call writes answered plain (get S.tables who.pid) refl (valid.nearly.tables who.pid ∙ ap lives live)

module _ (constants : Constants) (S : State) (who : Who) (call : Call) (writes : WordWrites) (T : State)
    (step : IsStep constants S who call (answer.Parked writes) T)
    (valid : IsValid S) (live : get S.statuses who.pid ≡ Some Live) (there : IsSome (thread_of S who.pid who.tid)) where
  -- beside what processes have of their own only the clock has moved
  moved : (processes : FinMap nat_cmp ProcessState) × (T ≡ record (tick S) { processes = processes })
  moved = parking_changes constants S who call writes T step valid

  waits_now : thread_of T who.pid who.tid ≡ Some (waiting constants call who (S.clock + 1000))
  waits_now =
      let moves = step_moves_only constants S who call (answer.Parked writes) T step in
      let leaves = moves.threads (ap (λ (U : State). get U.statuses who.pid) moved.1 ∙ live) in
      still_there (waiting constants call who (S.clock + 1000)) (thread_of S who.pid who.tid) (thread_of T who.pid who.tid) there
      (leaves.caller (parked_lasts call (answer.Parked writes) refl))

  answered : IsStep constants S who call (answer.Parked writes) T → answer.Parked writes ≡ step_answer constants S who call
  answered (inl done) = done.0
  answered (inr lacking) = absurd (not_true (sym (ap is_parked lacking.1)))

  unready : (meaning_of call).by_stage ≡ false → is_ready constants T who.pid who.tid ≡ false
  unready plain =
      ap (λ (U : State). is_ready constants U who.pid who.tid) moved.1
      ∙ unready_at constants S who call writes (answered step) plain valid live moved.0
      (ap (λ (U : State). thread_of U who.pid who.tid) (sym moved.1) ∙ waits_now)

-- The thread of a call that answers that it waits isn't ready once it begins to, where nothing but the clock has moved yet, in any run in which it waits until
-- its call's deadline.
pub parked_unready : (constants : Constants) (S : State) (who : Who) (call : Call) (writes : WordWrites)
    → answer.Parked writes ≡ (outcome_by constants (whole (tick S)) who call).answer → (meaning_of call).by_stage ≡ false → IsValid S
    → get S.statuses who.pid ≡ Some Live → IsSome (thread_of S who.pid who.tid) → (U : State) → U ≡ tick S → (other : Constants)
    → HasDeadline other (thread_of (with_thread U who.pid who.tid (waiting constants call who U.clock)) who.pid who.tid)
    → is_ready other (with_thread U who.pid who.tid (waiting constants call who U.clock)) who.pid who.tid ≡ false
parked_unready constants S who call writes is plain valid live there U left other =
    subst (λ (V : State). HasDeadline other (thread_of (with_thread V who.pid who.tid (waiting constants call who V.clock)) who.pid who.tid)
    → is_ready other (with_thread V who.pid who.tid (waiting constants call who V.clock)) who.pid who.tid ≡ false) (sym left) by_tick where
      thread : Thread
      thread = waiting constants call who (S.clock + 1000)

      T : State
      T = with_thread (tick S) who.pid who.tid thread

      answered : answer.Parked writes ≡ step_answer constants S who call
      answered = is ∙ ap (λ (o : Outcome). o.answer) (sym (outcome_reads constants S who call))

      here : thread_of T who.pid who.tid ≡ Some thread
      here = here_with (tick S) who.pid who.tid thread there

      may : MayWait (thread_of T who.pid who.tid)
      may = subst MayWait (sym here) (waiting_may constants call who (S.clock + 1000) (parks_only constants S who call (sym (ap is_parked answered))).may)

      by_tick : HasDeadline other (thread_of T who.pid who.tid) → is_ready other T who.pid who.tid ≡ false
      by_tick until =
          ready_by_any other constants T who.pid who.tid may until (subst (HasDeadline constants) (sym here) refl)
          ∙ unready_at constants S who call writes answered plain valid live T.processes here

pub begins_unready : BeginsUnready
begins_unready = record { waits = waits_now; unready = unready }
