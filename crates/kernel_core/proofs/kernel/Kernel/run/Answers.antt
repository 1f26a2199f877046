use Rattle.std.proofs.Common.{◌≡◌, false, Some, IsSome, is_some, sym, ap, subst, ◌∙◌, ◌+◌, arith}
use Rattle.std.specs.FinMap.{get}
use Rattle.abi_types.specs.declared.reply.Answer.TheVariants as answer
use Rattle.abi_types.specs.declared.status.Status.TheVariants.{Live}
use Rattle.kernel_model.specs.Calls.{meaning_of}
use Rattle.kernel_model.specs.Outcome.{IsSuccess}
use Rattle.kernel_model.specs.Release.{release}
use Rattle.kernel_model.specs.State.{State, put_all, thread_of}
use Rattle.kernel_model.specs.Step.{outcome_by, tick}
use Rattle.kernel_model.specs.Valid.{IsValid}
use Rattle.kernel_model.specs.View.{whole}
use Rattle.kernel_model.specs.Done.{IsAnswered}
use Rattle.kernel_core.specs.contracts.kernel.Kernel.{the_view}
use Rattle.kernel_core.proofs.Acts.{done_is_step, lack_is_step}
use Rattle.kernel_invariant.proofs.Parks.{park_lacks_is_step, parked_is_step, parked_left, parks_may}
use Rattle.readiness_laws.proofs.Beginning.{parked_unready}
use Rattle.readiness_laws.proofs.Running.{thread_lives}
use Rattle.kernel_invariant.proofs.HeldTimes.{all_held_at}
use Rattle.kernel_core.proofs.kernel.Kernel.run.Goals as goal
use Rattle.kernel_core.proofs.kernel.Kernel.run.Goals.{In-Ok-Parked}

-- ---- a call that is done

pub returns-in-Ok-Reply-clause-step : goal.returns-in-Ok-Reply-clause-step
returns-in-Ok-Reply-clause-step c =
    let constants = c.args.constants.now in
    let who = c.args.who.now in
    let call = c.args.call.now in
    done_is_step constants c.args.self.now c.dispatch.new.self who call c.in-Ok-Reply.reply
    (subst (λ (S : State). IsAnswered (outcome_by constants (whole (tick S)) who call) (tick S) c.dispatch.new.self (answer.Reply c.in-Ok-Reply.reply)) c.self.view_is
    (sym c.in-Ok-Reply.field-0-is ∙ c.in-Ok-Reply.ensures.0, c.in-Ok-Reply.ensures.1))

pub returns-in-Err-clause-step : goal.returns-in-Err-clause-step
returns-in-Err-clause-step c =
    let constants = c.args.constants.now in
    let who = c.args.who.now in
    let call = c.args.call.now in
    let lacks = c.in-Err.ensures in
    lack_is_step constants c.args.self.now c.dispatch.new.self who call (answer.Reply c.refused-in-Err.result) lacks.0
    (subst (λ (S : State). IsSuccess (outcome_by constants (whole (tick S)) who call).answer) c.self.view_is lacks.1)
    (ap answer.Reply c.refused-in-Err.ensures) (lacks.2 ∙ ap tick c.self.view_is)

-- ---- a call in which its thread waits

answered : (c : In-Ok-Parked)
    → answer.Parked c.in-Ok-Parked.writes ≡ (outcome_by c.args.constants.now (whole (tick c.args.self.now)) c.args.who.now c.args.call.now).answer
answered c =
    sym c.in-Ok-Parked.field-0-is ∙ c.in-Ok-Parked.ensures.0
    ∙ ap (λ (S : State). (outcome_by c.args.constants.now (whole (tick S)) c.args.who.now c.args.call.now).answer) c.self.view_is

valid : (c : In-Ok-Parked) → IsValid c.args.self.now
valid c = subst IsValid c.self.view_is c.self.invariant.kept.valid

-- the call is no poll of a lock or a condition variable
events : (c : In-Ok-Parked) → (meaning_of c.args.call.now).by_stage ≡ false
events c = sym c.in_default.ensures.value

live : (c : In-Ok-Parked) → get c.args.self.now.statuses c.args.who.now.pid ≡ Some Live
live c = thread_lives c.args.self.now c.args.who.now.pid c.args.who.now.tid (valid c) (ap is_some c.requires.runnable)

-- it has done nothing else
left : (c : In-Ok-Parked) → c.dispatch.new.self ≡ tick c.args.self.now
left c =
    parked_left c.args.constants.now c.args.self.now c.args.who.now c.args.call.now c.in-Ok-Parked.writes (events c) (live c) (answered c) c.dispatch.new.self (valid c)
    (c.in-Ok-Parked.ensures.1
    ∙ ap (λ (S : State). release (put_all (outcome_by c.args.constants.now (whole (tick S)) c.args.who.now c.args.call.now).updates (tick S))) c.self.view_is)

pub park-requires-clause-there : goal.park-requires-clause-there
park-requires-clause-there d =
    let c = (goal.at.park-requires-clause-there d).In-Ok-Parked in
    subst (λ (S : State). IsSome (thread_of S c.args.who.now.pid c.args.who.now.tid)) (sym (left c)) (ap is_some c.requires.runnable)

pub park-requires-clause-may : goal.park-requires-clause-may
park-requires-clause-may d =
    let c = (goal.at.park-requires-clause-may d).In-Ok-Parked in
    parks_may c.args.constants.now c.args.self.now c.args.who.now c.args.call.now c.in-Ok-Parked.writes (events c) (live c) (answered c)

pub park-requires-clause-unready : goal.park-requires-clause-unready
park-requires-clause-unready d =
    let c = (goal.at.park-requires-clause-unready d).In-Ok-Parked in
    parked_unready c.args.constants.now c.args.self.now c.args.who.now c.args.call.now c.in-Ok-Parked.writes (answered c) (events c) (valid c) (live c)
    (ap is_some c.requires.runnable) c.dispatch.new.self (left c)

pub returns-in-Ok-clause-step : goal.returns-in-Ok-clause-step
returns-in-Ok-clause-step c =
    let a = (goal.at.returns-in-Ok-clause-step c).In-Ok-Parked in
    parked_is_step c.args.constants.now c.args.self.now c.args.who.now c.args.call.now c.in-Ok-Parked.writes (events a) (live a) (answered a) c.dispatch.new.self c.park.new.self
    (valid a) (left a) c.in-Ok.ensures.ok

pub returns-in-Err-park-clause-step : goal.returns-in-Err-park-clause-step
returns-in-Err-park-clause-step c =
    let a = (goal.at.returns-in-Err-park-clause-step c).In-Ok-Parked in
    park_lacks_is_step c.args.constants.now c.args.self.now c.args.who.now c.args.call.now c.in-Ok-Parked.writes (events a) (live a) (answered a) c.park.new.self
    (answer.Reply c.refused.result) (c.in-Err-park.ensures.err ∙ left a) (ap answer.Reply c.refused.ensures)

-- ---- the time

pub invariant_of-self : goal.invariant_of-self
invariant_of-self c =
    all_held_at (the_view c.self.inside) c.self.inside.objects.counts (c.self.inside.clock + 1000) c.self.inside.waits c.touch_time.new.waits c.self.invariant (omega arith)
    c.touch_time.ensures
