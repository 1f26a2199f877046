use Rattle.std.proofs.Common.{◌≡◌, not, sym, ap, subst, ◌∙◌}
use Rattle.kernel_model.specs.Deadlines.{least_deadline}
use Rattle.kernel_model.specs.State.{State}
use Rattle.kernel_model.specs.Waits.{HasDeadlines}
use Rattle.kernel_model.specs.Wakes.{IsStalled, NoneReady}
use Rattle.kernel_model.proofs.Tests.{not_true}
use Rattle.kernel_invariant.specs.Waiting.{NoneRuns}
use Rattle.kernel_core.specs.contracts.kernel.Kernel.{the_view}
use Rattle.kernel_invariant.proofs.HeldRunners.{not_stalled, stall_told}
use Rattle.kernel_core.proofs.kernel.Kernel.stalled.Goals as goal

pub returns-then-not-is_empty-clause-exact : goal.returns-then-not-is_empty-clause-exact
returns-then-not-is_empty-clause-exact c =
    let constants = c.args.constants.now in
    let T : State = the_view c.self.inside in
    let is : T ≡ c.args.self.now = c.self.view_is ∙ c.is_quiet.ensures.same in
    let quiet = c.is_quiet.ensures.exact.0 c.if-not-is_quiet.false in
    let least : c.next_deadline.result ≡ least_deadline T =
    c.next_deadline.ensures constants (subst (HasDeadlines constants) (sym c.is_quiet.ensures.same) c.requires.deadlines) ∙ ap least_deadline (sym c.self.view_is) in
    let told = stall_told constants T c.self.inside.waits c.self.invariant.waits.watched c.self.invariant.kept.valid (subst NoneRuns (sym is) quiet.0)
    (subst (NoneReady constants) (sym is) quiet.1) (sym c.is_empty.ensures ∙ c.if-not-is_empty.true) c.next_deadline.result c.is_none.result least c.is_none.ensures in
    ((λ yes. subst (IsStalled constants) is (told.0 yes)), (λ stalled. told.1 (subst (IsStalled constants) (sym is) stalled)))

pub returns-else-not-is_empty-clause-exact : goal.returns-else-not-is_empty-clause-exact
returns-else-not-is_empty-clause-exact c =
    let constants = c.args.constants.now in
    let T : State = the_view c.self.inside in
    let is : T ≡ c.args.self.now = c.self.view_is ∙ c.is_quiet.ensures.same in (
      (λ yes. absurd (not_true (sym (ap not c.if-not-is_empty.false) ∙ yes))),
      (λ stalled.
          absurd (not_stalled constants T c.self.inside.waits c.self.invariant.waits.watched (sym c.is_empty.ensures ∙ c.if-not-is_empty.false)
          (subst (IsStalled constants) (sym is) stalled))),
    )
