use Rattle.std.proofs.Common.{inl, refl, sym, ap, subst, ◌∙◌, ◌+◌, arith}
use Rattle.abi_types.specs.declared.reply.Answer.TheVariants as answer
use Rattle.kernel_model.specs.State.{State}
use Rattle.kernel_model.specs.Step.{tick, IsStep}
use Rattle.kernel_core.specs.contracts.kernel.Kernel.{the_view}
use Rattle.kernel_core.proofs.Asking.{lock_lacks, lock_refused}
use Rattle.kernel_invariant.proofs.HeldTimes.{all_held_at}
use Rattle.kernel_core.proofs.kernel.Kernel.call_lock.Goals as goal

pub returns-in-Some-clause-step : goal.returns-in-Some-clause-step
returns-in-Some-clause-step c =
    let S : State = the_view c.self.inside in
    subst (λ (X : State). IsStep c.args.constants.now X c.args.who.now c.args.call.now (answer.Reply c.in-Some.reply) (tick S)) c.self.view_is
    (inl (lock_refused c.args.constants.now S c.args.who.now c.args.call.now c.in-Some.reply (sym c.refusal_of.ensures.refusal ∙ c.in-Some.is) c.self.invariant.kept.valid))

pub returns-in-None-clause-step : goal.returns-in-None-clause-step
returns-in-None-clause-step c =
    let S : State = the_view c.self.inside in
    let given = answer.Reply c.refused.result in
    subst (λ (X : State). IsStep c.args.constants.now X c.args.who.now c.args.call.now given (tick S)) c.self.view_is
    (lock_lacks c.args.constants.now S c.args.who.now c.args.call.now c.args.first.now c.requires.begins (sym c.refusal_of.ensures.refusal ∙ c.in-None.is)
    given (tick S) (ap answer.Reply c.refused.ensures) refl)

-- ---- the time

pub invariant_of-self : goal.invariant_of-self
invariant_of-self c =
    all_held_at (the_view c.self.inside) c.self.inside.objects.counts (c.self.inside.clock + 1000) c.self.inside.waits c.touch_time.new.waits c.self.invariant (omega arith)
    c.touch_time.ensures
