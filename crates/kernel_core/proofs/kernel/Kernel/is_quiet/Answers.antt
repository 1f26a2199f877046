use Rattle.std.proofs.Common.{◌≡◌, false, not, sym, ap, subst, ◌∙◌}
use Rattle.std.specs.Prelude.{nat_lt}
use Rattle.wait_set.specs.Waits.{counted, is_running}
use Rattle.kernel_model.proofs.Tests.{not_true}
use Rattle.kernel_invariant.specs.Waiting.{NoneRuns}
use Rattle.kernel_core.specs.contracts.kernel.Kernel.{the_view}
use Rattle.kernel_invariant.proofs.HeldRunners.{all_wait_where, none_counted, ready_told}
use Rattle.kernel_core.proofs.kernel.Kernel.is_quiet.Goals as goal

pub returns-then-not-has_running-clause-exact : goal.returns-then-not-has_running-clause-exact
returns-then-not-has_running-clause-exact c =
    let none : nat_lt 0 (counted is_running c.self.inside.waits) ≡ false = sym c.has_running.ensures ∙ c.if-not-has_running.true in
    let told = ready_told c.args.constants.now c.args.self.now c.next_ready.result c.is_none.result c.next_ready.ensures.next c.is_none.ensures in (
      (λ yes. (
        subst NoneRuns c.self.view_is (all_wait_where (the_view c.self.inside) c.self.inside.waits c.self.invariant.waits.watched none),
        told.0 yes,
      )),
      (λ both. told.1 both.1),
    )

pub returns-else-not-has_running-clause-exact : goal.returns-else-not-has_running-clause-exact
returns-else-not-has_running-clause-exact c = (
  (λ yes. absurd (not_true (sym (ap not c.if-not-has_running.false) ∙ yes))),
  (λ both.
      absurd (not_true (sym (none_counted (the_view c.self.inside) c.self.inside.waits c.self.invariant.waits.watched (subst NoneRuns (sym c.self.view_is) both.0))
      ∙ sym c.has_running.ensures ∙ c.if-not-has_running.false))),
)
