use Rattle.std.proofs.Common.{◌+◌, None, subst}
use Rattle.abi_types.specs.declared.who.Who.{Who}
use Rattle.kernel_model.specs.Step.{IsStep}
use Rattle.kernel_model.proofs.Refusals.{lack_is_denied, leaving_is_denied, step_denial, step_reported}
use Rattle.kernel_model.proofs.Touches.{others_stay}
use Rattle.kernel_model.proofs.Steps.{step_keeps_valid}
use Rattle.kernel_core.specs.Waiting.{caller}
use Rattle.kernel_core.proofs.Steps.{step_refused}
use Rattle.kernel_core.proofs.kernel.Kernel.step.Goals as goal
use Rattle.kernel_core.proofs.kernel.Kernel.step.Goals.{After-run}

-- the call is made at the moment after this step
stepped : (c : After-run) → IsStep c.args.constants.now c.args.self.now (caller c.args.self.now c.args.pid c.args.tid) c.args.call.now c.run.result c.run.new.self
stepped c =
    subst (λ (who : Who). IsStep c.args.constants.now c.args.self.now who c.args.call.now c.run.result c.run.new.self)
    (λ i. record { pid = c.args.pid; tid = c.args.tid; since = (c.self.view_is i).clock + 1000; stage = None }) c.run.ensures.step

pub returns-clause-valid : goal.returns-clause-valid
returns-clause-valid c = step_keeps_valid _ _ _ _ _ _ (stepped c) c.run.ensures.valid

pub returns-clause-others : goal.returns-clause-others
returns-clause-others c = λ q untouched. others_stay _ _ _ _ _ _ q (stepped c) untouched

pub returns-clause-denied : goal.returns-clause-denied
returns-clause-denied c = λ table row d there all first. lack_is_denied _ _ _ _ _ _ table row d (stepped c) there all first

pub returns-clause-only : goal.returns-clause-only
returns-clause-only c = λ reply denial is denies. step_denial _ _ _ _ _ _ reply denial (stepped c) is denies

pub returns-clause-outside : goal.returns-clause-outside
returns-clause-outside c = λ component leads. leaving_is_denied _ _ _ _ _ _ component (stepped c) leads

pub returns-clause-reported : goal.returns-clause-reported
returns-clause-reported c = λ reply early is lacks. step_reported _ _ _ _ _ _ reply early (stepped c) is lacks

pub returns-clause-refused : goal.returns-clause-refused
returns-clause-refused c = λ reply is fails. step_refused _ _ _ _ _ _ reply c.run.ensures.valid (stepped c) is fails
