use Rattle.std.proofs.Common.{◌≡◌, true, None, Some, Option, IfSome, IsSome, refl, sym, subst, ◌∙◌, ◌+◌, arith}
use Rattle.std.specs.FinMap.{get}
use Rattle.abi_types.specs.declared.call.Call.{Call}
use Rattle.abi_types.specs.declared.reply.Answer.TheVariants as answer
use Rattle.kernel_model.specs.Calls.{refusal_of}
use Rattle.kernel_model.specs.Outcome.{is_parked}
use Rattle.kernel_model.specs.State.{State, thread_of}
use Rattle.kernel_model.specs.Step.{step_answer, tick}
use Rattle.kernel_model.specs.Waits.{may_wait, waiting, with_thread}
use Rattle.kernel_model.specs.Wakes.{LacksNoMemory}
use Rattle.kernel_core.specs.contracts.kernel.Kernel.{the_view}
use Rattle.kernel_core.proofs.Asking.{lock_may, lock_parks, lock_refused, lock_replies, lock_waits}
use Rattle.kernel_invariant.proofs.HeldTimes.{all_held_at}
use Rattle.kernel_core.proofs.kernel.Kernel.lock_poll.Goals as goal
use Rattle.kernel_core.proofs.kernel.Kernel.lock_poll.Goals.{In-Parked}

pub returns-in-Some-clause-exact : goal.returns-in-Some-clause-exact
returns-in-Some-clause-exact c =
    let S : State = the_view c.self.inside in
    subst (λ (X : State). LacksNoMemory c.args.constants.now X c.args.who.now c.args.call.now (answer.Reply c.in-Some.reply) (tick S)) c.self.view_is
    (lock_refused c.args.constants.now S c.args.who.now c.args.call.now c.in-Some.reply (sym c.refusal_of.ensures.refusal ∙ c.in-Some.is) c.self.invariant.kept.valid)

-- a call that asks for its lock, or lets it go and waits
pub returns-in-Reply-clause-exact : goal.returns-in-Reply-clause-exact
returns-in-Reply-clause-exact c =
    let S : State = the_view c.self.inside in
    subst (λ (X : State). LacksNoMemory c.args.constants.now X c.args.who.now c.args.call.now (answer.Reply c.in-Reply.reply) c.ask_lock.new.self) c.self.view_is
    (lock_replies c.args.constants.now S c.args.who.now c.args.call.now c.args.first.now c.requires.begins (sym c.refusal_of.ensures.refusal ∙ c.in_default.is)
    c.in-Reply.reply c.ask_lock.new.self c.in-Reply.ensures.done)

-- ---- a call in which its thread waits

module _ (d : In-Parked) where
  abbrev seen : State
  seen = the_view d.self.inside

  unrefused : refusal_of d.args.call.now (get seen.tables d.args.who.now.pid) ≡ None
  unrefused = sym d.refusal_of.ensures.refusal ∙ d.in_default.is

  kept_is : d.args.kept.now ≡ Some d.args.call.now
  kept_is =
      d.requires.kept
      (subst (λ (X : State). is_parked (step_answer d.args.constants.now X d.args.who.now d.args.call.now) ≡ true) d.self.view_is
      (lock_parks d.args.constants.now seen d.args.who.now d.args.call.now d.args.first.now d.requires.begins unrefused d.in-Parked.writes d.ask_lock.new.self
      d.in-Parked.ensures.done))

  may : may_wait d.args.call.now ≡ true
  may = lock_may d.args.constants.now seen d.args.who.now d.args.call.now d.args.first.now d.requires.begins unrefused

  waits : (T : State)
      → T ≡ with_thread d.ask_lock.new.self d.args.who.now.pid d.args.who.now.tid
      (waiting d.args.constants.now d.args.call.now d.args.who.now d.ask_lock.new.self.clock)
      → LacksNoMemory d.args.constants.now d.args.self.now d.args.who.now d.args.call.now (answer.Parked d.in-Parked.writes) T
  waits T after =
      subst (λ (X : State). LacksNoMemory d.args.constants.now X d.args.who.now d.args.call.now (answer.Parked d.in-Parked.writes) T) d.self.view_is
      (lock_waits d.args.constants.now seen d.args.who.now d.args.call.now d.args.first.now d.requires.begins unrefused d.self.invariant.kept.valid
      (subst (λ (X : State). IsSome (thread_of X d.args.who.now.pid d.args.who.now.tid)) (sym d.self.view_is) d.requires.there)
      d.in-Parked.writes d.args.call.now d.ask_lock.new.self T refl d.in-Parked.ensures.done d.in-Parked.ensures.moment after)

pub wait_in-requires-clause-may : goal.wait_in-requires-clause-may
wait_in-requires-clause-may c =
    let d = (goal.at.wait_in-requires-clause-may c).In-Parked in
    subst (λ (kept : Option Call). IfSome kept (λ call. may_wait call ≡ true)) (sym (kept_is d)) (may d)

pub returns-in-Parked-clause-exact : goal.returns-in-Parked-clause-exact
returns-in-Parked-clause-exact c =
    let d = (goal.at.returns-in-Parked-clause-exact c).In-Parked in
    waits d c.wait_in.new.self
    (subst (λ (kept : Option Call). IfSome kept (λ call. c.wait_in.new.self
    ≡ with_thread c.ask_lock.new.self c.args.who.now.pid c.args.who.now.tid (waiting c.args.constants.now call c.args.who.now c.ask_lock.new.self.clock)))
    (kept_is d) c.wait_in.ensures)

-- ---- the time

pub invariant_of-self : goal.invariant_of-self
invariant_of-self c =
    all_held_at (the_view c.self.inside) c.self.inside.objects.counts (c.self.inside.clock + 1000) c.self.inside.waits c.touch_time.new.waits c.self.invariant (omega arith)
    c.touch_time.ensures
