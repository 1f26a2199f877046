-- What polls answer, when threads that wait in them are ready, and until when they wait.
--     poll_tells_ready, poll_waits      what a poll answers
--     poll_ready_where      when a thread that waits in it is ready
--     poll_has_soonest      its deadline
use Rattle.std.proofs.Common.{◌≡◌, ◌⊎◌, inl, inr, ℕ, ◌+◌, ◌^◌, ◌<◌, ◌≤◌, true, false, min, not, List, [], ◌∷◌, ◌++◌, Option, Some, None, refl, sym, ap, subst, ◌∙◌, arith}
use Rattle.std.proofs.Math.Nat.{min-le_left, min-le_right}
use Rattle.std.specs.Prelude.{if◌then◌else◌}
use Rattle.std.specs.FinMap.{get}
use Rattle.abi_structures.specs.declared.events.Event.{Event}
use Rattle.abi_structures.specs.declared.events.Subscription.{Subscription}
use Rattle.abi_structures.specs.declared.events.What.{What}
use Rattle.abi_structures.specs.declared.events.What.TheVariants.{Clock}
use Rattle.abi_types.specs.declared.call.Call.TheVariants.{Poll}
use Rattle.abi_types.specs.declared.constants.Constants.{Constants}
use Rattle.abi_types.specs.declared.reply.Answer.TheVariants as answer
use Rattle.abi_types.specs.declared.reply.WordWrites.TheVariants.{Zero}
use Rattle.abi_types.specs.declared.who.Who.{Who}
use Rattle.kernel_model.specs.Calls.{meaning_of}
use Rattle.kernel_model.specs.Deadlines.{is_due, soon}
use Rattle.kernel_model.specs.Families.Polls.{begins_with_lock, deadline_in, events_now, events_reply, poll_by, sooner, soonest, told_or_waits}
use Rattle.kernel_model.specs.Families.WaitCalls.{clock_deadline}
use Rattle.kernel_model.specs.Outcome.{Outcome, is_parked}
use Rattle.kernel_model.specs.PollLaws.{AnswersEvents, AreTold, ClockHasCome, IsPoll, PollHasSoonest, PollReadyWhere, PollTellsReady, PollWaits, SomeClockHasCome}
use Rattle.kernel_model.specs.Proper.{IsIn}
use Rattle.kernel_model.specs.State.{State, Table}
use Rattle.kernel_model.specs.Step.{outcome_on, step_answer, tick, unless}
use Rattle.kernel_model.specs.View.{View, whole}
use Rattle.kernel_model.specs.Waits.{resumed, WaitsIn}
use Rattle.kernel_model.specs.Wakes.{goes_on_at, is_done_now, is_ready}
use Rattle.kernel_model.proofs.Deadlines.{soon_is}
use Rattle.kernel_model.proofs.Lists.{in_more}
use Rattle.kernel_model.proofs.Outcomes.{outcome_of_table}
use Rattle.kernel_model.proofs.PollEvents.{events_told, none_is_lost, none_is_more}
use Rattle.kernel_model.proofs.PollTimes.{come_is, not_soon}
use Rattle.kernel_model.proofs.Polls.{are_absent, parked_events, sooner_is}
use Rattle.kernel_model.proofs.Reaches.{all_met}
use Rattle.kernel_model.proofs.Readiness.{ready_is}
use Rattle.kernel_model.proofs.Tests.{none_is_no, not_true, same_some}

-- ---- what it answers

-- a poll that isn't refused does what its subscriptions tell
done_by : (constants : Constants) (S : State) (who : Who) (table : Table) (subscriptions : List Subscription) (v : View) → IsPoll S who table subscriptions
    → outcome_on constants v who (Poll subscriptions) (Some table) ≡ told_or_waits (events_now constants v who.since table subscriptions)
done_by constants S who table subscriptions v is =
    ap (λ r. unless r ((meaning_of (Poll subscriptions)).effect constants v who table)) is.allowed
    ∙ ap (λ b. (poll_by b subscriptions).effect constants v who table) is.plain

module _ (constants : Constants) (S : State) (who : Who) (table : Table) (subscriptions : List Subscription) (is : IsPoll S who table subscriptions)
    (early : S.clock + 1000 < 2 ^ 62) where
  abbrev now_told : List Event
  now_told = events_now constants (whole (tick S)) who.since table subscriptions

  are_told : AreTold constants S table who.since (S.clock + 1000) subscriptions now_told
  are_told =
      events_told constants S is.valid.nearly who.pid table is.own who.since (S.clock + 1000) early (get S.processes) subscriptions
      (all_met (Poll subscriptions) table is.allowed)

  answer_is : step_answer constants S who (Poll subscriptions) ≡ (told_or_waits now_told).answer
  answer_is =
      ap (λ (o : Outcome). o.answer) (outcome_of_table constants S who (Poll subscriptions) table is.own)
      ∙ ap (λ (o : Outcome). o.answer) (done_by constants S who table subscriptions (whole (tick S)) is)

answers_events : (events : List Event) → AnswersEvents events (told_or_waits events).answer
answers_events [] = refl
answers_events (event ∷ events) = (events_reply (event ∷ events), refl, record { errno = refl; count = refl; payload = refl; writes = refl })

pub poll_tells_ready : PollTellsReady
poll_tells_ready constants S who table subscriptions is early =
    let events = now_told constants S who table subscriptions is early in (
      events,
      are_told constants S who table subscriptions is early,
      subst (AnswersEvents events) (sym (answer_is constants S who table subscriptions is early)) (answers_events events),
    )

-- no event is told, or a first one
none_or_first : (events : List Event) → (events ≡ []) ⊎ ((event : Event) × IsIn event events)
none_or_first [] = inl refl
none_or_first (event ∷ events) = inr (event, ([], events, refl))

none_here : (event : Event) → ¬ IsIn event []
none_here event here = elim here.0 as (λ before. [] ≡ before ++ event ∷ here.1 → ⊥) [
  | [] ↦ λ e. cc
  | first ∷ rest ↦ λ e. cc
] here.2

waits_for_none : (events : List Event) → (told_or_waits events).answer ≡ answer.Parked Zero → events ≡ []
waits_for_none [] e = refl
waits_for_none (event ∷ events) e = cc

pub poll_waits : PollWaits
poll_waits constants S who table subscriptions is early =
    let events = now_told constants S who table subscriptions is early in
    let told = are_told constants S who table subscriptions is early in
    let answered = answer_is constants S who table subscriptions is early in (
      λ waits s here ready.
          let none = waits_for_none events (sym answered ∙ waits) in
          let its = none_is_lost constants S table who.since (S.clock + 1000) subscriptions events s told here ready in
          none_here its.0 (subst (IsIn its.0) none its.1),
      λ all. elim (none_or_first events) [
        | inl none ↦ answered ∙ ap (λ (es : List Event). (told_or_waits es).answer) none
        | inr first ↦ (
            let its = none_is_more constants S table who.since (S.clock + 1000) subscriptions events first.0 told first.1 in
            absurd (all its.0 its.1 its.2))
      ],
    )

-- ---- threads that wait in it

module _ (constants : Constants) (S : State) (who : Who) (table : Table) (subscriptions : List Subscription) (is : IsPoll S who table subscriptions)
    (early : S.clock < 2 ^ 62) where
  abbrev told_then : List Event
  told_then = events_now constants (whole (resumed S who)) who.since table subscriptions

  are_told_then : AreTold constants S table who.since S.clock subscriptions told_then
  are_told_then =
      events_told constants S is.valid.nearly who.pid table is.own who.since S.clock early (get (resumed S who).processes) subscriptions
      (all_met (Poll subscriptions) table is.allowed)

  done_is : is_done_now constants S who (Poll subscriptions) ≡ not (are_absent told_then)
  done_is =
      ap (λ o. not (is_parked (outcome_on constants (whole (resumed S who)) who (Poll subscriptions) o).answer)) is.own
      ∙ ap (λ (o : Outcome). not (is_parked o.answer)) (done_by constants S who table subscriptions (whole (resumed S who)) is)
      ∙ ap not (parked_events told_then)

some_told : (events : List Event) → not (are_absent events) ≡ true → (event : Event) × IsIn event events
some_told [] h = absurd (not_true h)
some_told (event ∷ events) h = (event, ([], events, refl))

told_some : (events : List Event) (event : Event) → IsIn event events → not (are_absent events) ≡ true
told_some [] event here = absurd (none_here event here)
told_some (first ∷ events) event here = refl

-- a thread that waits in one goes on once it would be done
ready_done : (constants : Constants) (S : State) (who : Who) (table : Table) (subscriptions : List Subscription) → IsPoll S who table subscriptions
    → WaitsIn S who (Poll subscriptions) → is_ready constants S who.pid who.tid ≡ is_done_now constants S who (Poll subscriptions)
ready_done constants S who table subscriptions is kept =
    ready_is constants S who (Poll subscriptions) kept
    ∙ ap (λ b. if (poll_by b subscriptions).by_stage then goes_on_at kept.1 (is_due S.clock kept.0) else is_done_now constants S who (Poll subscriptions)) is.plain

pub poll_ready_where : PollReadyWhere
poll_ready_where constants S who table subscriptions is kept early =
    let events = told_then constants S who table subscriptions is early in
    let told = are_told_then constants S who table subscriptions is early in
    let done = done_is constants S who table subscriptions is early in (
      λ ready. (
          let first = some_told events (sym done ∙ sym (ready_done constants S who table subscriptions is kept) ∙ ready) in
          let its = none_is_more constants S table who.since S.clock subscriptions events first.0 told first.1 in
          (its.0, its.1, its.2)),
      λ some. (
          let its = none_is_lost constants S table who.since S.clock subscriptions events some.0 told some.1 some.2 in
          ready_done constants S who table subscriptions is kept ∙ done ∙ told_some events its.0 its.1),
    )

-- ---- its deadline

-- the moment has come
abbrev HasPassed : Option ℕ → ℕ → Type 0
HasPassed deadline now = (m : ℕ) × (deadline ≡ Some m) × (m ≤ now)

passed_left : (a b : Option ℕ) (now : ℕ) → HasPassed a now → HasPassed (sooner a b) now
passed_left None b now has = absurd (none_is_no has.0 has.1)
passed_left (Some m) None now has = has
passed_left (Some m) (Some n) now has =
    let same = same_some m has.0 has.1 in
    let come = has.2 in
    let least = min-le_left m n in
    (min m n, refl, omega (arith, same, come, least))

passed_right : (a b : Option ℕ) (now : ℕ) → HasPassed b now → HasPassed (sooner a b) now
passed_right None b now has = has
passed_right (Some m) None now has = absurd (none_is_no has.0 has.1)
passed_right (Some m) (Some n) now has =
    let same = same_some n has.0 has.1 in
    let come = has.2 in
    let least = min-le_right m n in
    (min m n, refl, omega (arith, same, come, least))

module _ (constants : Constants) (since now : ℕ) where
  -- a clock's time has come from its moment on
  clock_passed : (what : What) → ClockHasCome constants since now what → HasPassed (deadline_in constants since what) now
  clock_passed (Clock clock timeout precision flags) come =
      (clock_deadline constants since clock timeout flags, refl, (come_is constants since clock timeout flags now).0 come)
  clock_passed what come = absurd come

  passed_clock : (what : What) → HasPassed (deadline_in constants since what) now → ClockHasCome constants since now what
  passed_clock (Clock clock timeout precision flags) has =
      let d = clock_deadline constants since clock timeout flags in
      let same = same_some d has.0 has.1 in
      let come = has.2 in
      (come_is constants since clock timeout flags now).1 (omega (arith, same, come))
  passed_clock what has = absurd (none_is_no has.0 has.1)

  -- the soonest has come where one has
  some_passed : (subscriptions : List Subscription) → SomeClockHasCome constants since now subscriptions → HasPassed (soonest constants since subscriptions) now
  some_passed [] some = absurd (elsewhere some.0 some.1) where
    elsewhere : (s : Subscription) → ¬ IsIn s []
    elsewhere s here = elim here.0 as (λ before. [] ≡ before ++ s ∷ here.1 → ⊥) [
      | [] ↦ λ e. cc
      | first ∷ rest ↦ λ e. cc
    ] here.2
  some_passed (s ∷ rest) some =
      elim (in_cons some.0 s rest some.1) [
        | inl first ↦
            passed_left (deadline_in constants since s.what) (soonest constants since rest) now
            (clock_passed s.what (subst (λ (x : Subscription). ClockHasCome constants since now x.what) first some.2))
        | inr other ↦
            passed_right (deadline_in constants since s.what) (soonest constants since rest) now (some_passed rest (some.0, other, some.2))
      ] where
        in_cons : (x y : Subscription) (ys : List Subscription) → IsIn x (y ∷ ys) → (x ≡ y) ⊎ IsIn x ys
        in_cons x y ys here =
            elim here.0 as (λ before. (y ∷ ys) ≡ before ++ x ∷ here.1 → (x ≡ y) ⊎ IsIn x ys) [
              | [] ↦ λ e. inl (cc)
              | first ∷ more ↦ λ e. inr (more, here.1, cc)
            ] here.2

  passed_some : (subscriptions : List Subscription) → HasPassed (soonest constants since subscriptions) now → SomeClockHasCome constants since now subscriptions
  passed_some [] has = absurd (none_is_no has.0 has.1)
  passed_some (s ∷ rest) has =
      elim (sooner_is (deadline_in constants since s.what) (soonest constants since rest)) [
        | inl is ↦ (s, ([], rest, refl), passed_clock s.what (has.0, sym is ∙ has.1, has.2))
        | inr is ↦ (
            let some = passed_some rest (has.0, sym is ∙ has.1, has.2) in
            (some.0, in_more some.0 s rest some.1, some.2))
      ]

-- the deadline of a poll that isn't of a lock
deadline_is : (constants : Constants) (subscriptions : List Subscription) (since : ℕ) → begins_with_lock subscriptions ≡ false
    → (meaning_of (Poll subscriptions)).deadline constants since ≡ soonest constants since subscriptions
deadline_is constants subscriptions since plain = ap (λ b. (poll_by b subscriptions).deadline constants since) plain

-- where it doesn't count it is late, if there is one
late : (deadline : Option ℕ) (m : ℕ) → soon deadline ≡ None → deadline ≡ Some m → 2 ^ 62 ≤ m
late deadline m none is = not_soon m (sym (ap soon is) ∙ none)

pub poll_has_soonest : PollHasSoonest
poll_has_soonest = record {
  first = λ constants subscriptions since until now plain is. (
      let soonest_is : soonest constants since subscriptions ≡ Some until =
      sym (deadline_is constants subscriptions since plain) ∙ soon_is ((meaning_of (Poll subscriptions)).deadline constants since) until is in (
        λ some. (
            let has = some_passed constants since now subscriptions some in
            let same = same_some has.0 until (sym has.1 ∙ soonest_is) in
            let come = has.2 in
            omega (arith, same, come)),
        λ come. passed_some constants since now subscriptions (until, soonest_is, come),
      ));
  none = λ constants subscriptions since now plain none early some. (
      let has = some_passed constants since now subscriptions some in
      let after = late ((meaning_of (Poll subscriptions)).deadline constants since) has.0 none (deadline_is constants subscriptions since plain ∙ has.1) in
      let come = has.2 in
      omega (arith, after, come, early));
}
