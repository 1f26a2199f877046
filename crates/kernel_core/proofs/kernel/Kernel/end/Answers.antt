use Rattle.std.proofs.Common.{◌≡◌, is_some, sym, ap, subst, ◌∙◌, ◌+◌, arith}
use Rattle.kernel_model.specs.State.{State, Agree}
use Rattle.kernel_model.specs.Step.{end_state}
use Rattle.kernel_model.specs.Valid.{IsValid}
use Rattle.kernel_model.proofs.Touches.{end_is, end_keeps}
use Rattle.kernel_model.proofs.Steps.{end_valid}
use Rattle.kernel_core.specs.contracts.kernel.Kernel.{the_view}
use Rattle.kernel_invariant.proofs.HeldTimes.{all_held_at}
use Rattle.kernel_core.proofs.kernel.Kernel.end.Goals as goal
use Rattle.kernel_core.proofs.kernel.Kernel.end.Goals.{After-end_process}

after : (c : After-end_process) → c.end_process.new.self ≡ end_state c.args.self.now c.args.pid c.args.status
after c =
    c.end_process.ensures ∙ sym (end_is (the_view c.self.inside) c.args.pid c.args.status) ∙ ap (λ (S : State). end_state S c.args.pid c.args.status) c.self.view_is

pub returns-clause-end : goal.returns-clause-end
returns-clause-end c = after (goal.at.returns-clause-end c).After-end_process

pub returns-clause-valid : goal.returns-clause-valid
returns-clause-valid c =
    subst IsValid (sym (after c)) (end_valid c.args.self.now c.args.pid c.args.status (ap is_some c.requires.live) c.requires.dead (subst IsValid c.self.view_is c.self.invariant.kept.valid))

pub returns-clause-others : goal.returns-clause-others
returns-clause-others c = λ q outside stays.
    subst (λ (T : State). Agree T c.args.self.now q) (sym (after c)) (end_keeps c.args.self.now c.args.pid c.args.status q outside stays)

-- ---- the time

pub invariant_of-self : goal.invariant_of-self
invariant_of-self c =
    all_held_at (the_view c.self.inside) c.self.inside.objects.counts (c.self.inside.clock + 1000) c.self.inside.waits c.touch_time.new.waits c.self.invariant (omega arith)
    c.touch_time.ensures
