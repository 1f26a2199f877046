-- When polls of one clock are over.
--     poll_awaits_clock      what the poll answers
--     poll_is_ready      when a thread that waits in it is ready
--     poll_has_deadline      its deadline
--     come_is, due_where, due_only, not_soon      the moment of a time of a clock, and whether it has come
use Rattle.std.proofs.Common.{◌≡◌, ◌↔◌, ℕ, ◌+◌, ◌-◌, ◌^◌, ◌==◌, ◌<◌, ◌≤◌, Bool, true, false, not, [], ◌∷◌, Some, None, IsSome, refl, sym, ap, subst, ◌∙◌, arith}
use Rattle.std.proofs.lemmas.Bool.{lt-ltb, ltb-false, ltb-true}
use Rattle.std.specs.Prelude.{nat_lt, MatchBool, if◌then◌else◌}
use Rattle.std.specs.FinMap.{get}
use Rattle.abi_structures.specs.declared.events.Event.{Event}
use Rattle.abi_structures.specs.declared.events.EventType.TheVariants as type
use Rattle.abi_types.specs.declared.constants.Constants.{Constants}
use Rattle.abi_types.specs.declared.reply.Answer.TheVariants as answer
use Rattle.abi_types.specs.declared.reply.WordWrites.TheVariants.{Zero}
use Rattle.abi_types.specs.declared.who.Who.{Who}
use Rattle.tree_model.specs.Faults.{some_there}
use Rattle.kernel_model.specs.Deadlines.{is_due, soon}
use Rattle.kernel_model.specs.Families.Polls.{and_event, event_of, events_reply, told_or_waits}
use Rattle.kernel_model.specs.Families.WaitCalls.{clock_deadline}
use Rattle.kernel_model.specs.Outcome.{Outcome, is_parked}
use Rattle.kernel_model.specs.PollLaws.{clock_call, HasCome, HasClockEvent, PollAwaitsClock, PollHasDeadline, PollIsReady}
use Rattle.kernel_model.specs.State.{State}
use Rattle.kernel_model.specs.Step.{outcome_on, step_answer}
use Rattle.kernel_model.specs.View.{whole}
use Rattle.kernel_model.specs.Waits.{resumed}
use Rattle.kernel_model.specs.Wakes.{is_done_now}
use Rattle.kernel_model.proofs.Deadlines.{due_at, soon_is, soon_kept}
use Rattle.kernel_model.proofs.Outcomes.{outcome_of_table}
use Rattle.kernel_model.proofs.Readiness.{ready_is}
use Rattle.kernel_model.proofs.Tests.{none_is_no, not_true, same_some}

-- ---- the moment of a time

shown_by : (real : Bool) (epoch timeout now : ℕ) → (timeout ≤ (if real then epoch + now else now)) ↔ ((if real then timeout - epoch else timeout) ≤ now)
shown_by true epoch timeout now = (λ h. omega (arith, h), λ h. omega (arith, h))
shown_by false epoch timeout now = (λ h. h, λ h. h)

come_by : (absolute real : Bool) (epoch since timeout now : ℕ)
    → MatchBool absolute (timeout ≤ (if real then epoch + now else now)) (since + timeout ≤ now)
    ↔ ((if absolute then (if real then timeout - epoch else timeout) else since + timeout) ≤ now)
come_by true real epoch since timeout now = shown_by real epoch timeout now
come_by false real epoch since timeout now = (λ h. h, λ h. h)

-- the time has come from its moment on
pub come_is : (constants : Constants) (since clock timeout flags now : ℕ)
    → HasCome constants since clock timeout flags now ↔ (clock_deadline constants since clock timeout flags ≤ now)
come_is constants since clock timeout flags now = come_by (flags == 1) (clock == 3) constants.epoch since timeout now

-- ---- deadlines that count

pub due_where : (d now : ℕ) → d ≤ now → now < 2 ^ 62 → is_due now (soon (Some d)) ≡ true
due_where d now come early =
    let counts : d < 2 ^ 62 = omega (arith, come, early) in ap (is_due now) (soon_kept d counts) ∙ due_at now d come

not_due : (d now : ℕ) → now < d → is_due now (soon (Some d)) ≡ false
not_due d now h =
    elim (nat_lt d (2 ^ 62)) as (λ b. is_due now (if b then Some d else None) ≡ false) [
      | true ↦ ap not (lt-ltb now d h)
      | false ↦ refl
    ]

before_where : (d now : ℕ) → ¬ (d ≤ now) → now < d
before_where d now h =
    elim (nat_lt now d) as (λ b. nat_lt now d ≡ b → now < d) [
      | true ↦ λ e. ltb-true now d e
      | false ↦ λ e. absurd (h (ltb-false now d e))
    ] refl

pub not_soon : (d : ℕ) → soon (Some d) ≡ None → 2 ^ 62 ≤ d
not_soon d e =
    elim (nat_lt d (2 ^ 62)) as (λ b. nat_lt d (2 ^ 62) ≡ b → (if b then Some d else None) ≡ None → 2 ^ 62 ≤ d) [
      | true ↦ λ l i. absurd (none_is_no d (sym i))
      | false ↦ λ l i. ltb-false d (2 ^ 62) l
    ] refl e

pub poll_has_deadline : PollHasDeadline
poll_has_deadline = record {
  first = λ constants userdata clock timeout precision flags since until now is. (
      let d = clock_deadline constants since clock timeout flags in
      let same : d ≡ until = same_some d until (soon_is (Some d) until is) in
      subst (λ n. HasCome constants since clock timeout flags now ↔ (n ≤ now)) same (come_is constants since clock timeout flags now));
  none = λ constants userdata clock timeout precision flags since now none early come. (
      let d = clock_deadline constants since clock timeout flags in
      let late = not_soon d none in
      let after = (come_is constants since clock timeout flags now).0 come in
      omega (arith, late, after, early));
}

-- ---- what the poll comes to

abbrev clock_event : ℕ → Event
clock_event userdata = event_of userdata type.Clock

abbrev clock_poll_at : Bool → ℕ → Outcome
clock_poll_at due userdata = told_or_waits (and_event (if due then Some (clock_event userdata) else None) [])

done_at : (due : Bool) (userdata : ℕ) → due ≡ true → (clock_poll_at due userdata).answer ≡ answer.Reply (events_reply (clock_event userdata ∷ []))
done_at due userdata e = ap (λ b. (clock_poll_at b userdata).answer) e

waits_at : (due : Bool) (userdata : ℕ) → due ≡ false → (clock_poll_at due userdata).answer ≡ answer.Parked Zero
waits_at due userdata e = ap (λ b. (clock_poll_at b userdata).answer) e

event_is : (userdata : ℕ) → HasClockEvent userdata (events_reply (clock_event userdata ∷ []))
event_is userdata = record { errno = refl; count = refl; events = refl; writes = refl }

poll_answer : (constants : Constants) (S : State) (who : Who) (userdata clock timeout precision flags : ℕ) → IsSome (get S.tables who.pid)
    → step_answer constants S who (clock_call userdata clock timeout precision flags)
    ≡ (clock_poll_at (is_due (S.clock + 1000) (soon (Some (clock_deadline constants who.since clock timeout flags)))) userdata).answer
poll_answer constants S who userdata clock timeout precision flags there =
    let own = some_there (get S.tables who.pid) there in
    ap (λ (o : Outcome). o.answer) (outcome_of_table constants S who (clock_call userdata clock timeout precision flags) own.0 own.1)

pub poll_awaits_clock : PollAwaitsClock
poll_awaits_clock constants S who userdata clock timeout precision flags there =
    let d = clock_deadline constants who.since clock timeout flags in
    let now = S.clock + 1000 in
    let comes = come_is constants who.since clock timeout flags now in
    let is = poll_answer constants S who userdata clock timeout precision flags there in (
      λ come early. (
        events_reply (clock_event userdata ∷ []),
        is ∙ done_at (is_due now (soon (Some d))) userdata (due_where d now (comes.0 come) early),
        event_is userdata,
      ),
      λ absent. is ∙ waits_at (is_due now (soon (Some d))) userdata (not_due d now (before_where d now (λ h. absent (comes.1 h)))),
    )

-- ---- threads that wait in it

parked_is : (due : Bool) (userdata : ℕ) → not (is_parked (clock_poll_at due userdata).answer) ≡ due
parked_is true userdata = refl
parked_is false userdata = refl

done_now : (constants : Constants) (S : State) (who : Who) (userdata clock timeout precision flags : ℕ) → IsSome (get S.tables who.pid)
    → is_done_now constants S who (clock_call userdata clock timeout precision flags)
    ≡ is_due S.clock (soon (Some (clock_deadline constants who.since clock timeout flags)))
done_now constants S who userdata clock timeout precision flags there =
    let own = some_there (get S.tables who.pid) there in
    let call = clock_call userdata clock timeout precision flags in
    ap (λ o. not (is_parked (outcome_on constants (whole (resumed S who)) who call o).answer)) own.1
    ∙ parked_is (is_due S.clock (soon (Some (clock_deadline constants who.since clock timeout flags)))) userdata

pub due_only : (d now : ℕ) → is_due now (soon (Some d)) ≡ true → d ≤ now
due_only d now due =
    elim (nat_lt now d) as (λ b. nat_lt now d ≡ b → d ≤ now) [
      | true ↦ λ e. absurd (not_true (sym (not_due d now (ltb-true now d e)) ∙ due))
      | false ↦ λ e. ltb-false now d e
    ] refl

pub poll_is_ready : PollIsReady
poll_is_ready constants S who userdata clock timeout precision flags there kept early =
    let d = clock_deadline constants who.since clock timeout flags in
    let call = clock_call userdata clock timeout precision flags in
    let comes = come_is constants who.since clock timeout flags S.clock in
    let is = done_now constants S who userdata clock timeout precision flags there in (
      λ ready. comes.1 (due_only d S.clock (sym is ∙ sym (ready_is constants S who call kept) ∙ ready)),
      λ come. ready_is constants S who call kept ∙ is ∙ due_where d S.clock (comes.0 come) early,
    )
