use Rattle.std.proofs.Common.{◌≡◌, sym, subst}
use Rattle.kernel_model.specs.Deadlines.{least_deadline}
use Rattle.kernel_model.specs.State.{State}
use Rattle.kernel_model.specs.Waits.{HasDeadlines}
use Rattle.kernel_core.specs.contracts.kernel.Kernel.{the_view}
use Rattle.kernel_invariant.proofs.HeldDeadlines.{first_moment}
use Rattle.kernel_core.proofs.kernel.Kernel.next_deadline.Goals as goal

pub returns-in-None : goal.returns-in-None
returns-in-None c = λ constants deadlines.
    subst (λ (S : State). c.next_moment.result ≡ least_deadline S) c.self.view_is
    (first_moment constants (the_view c.self.inside) c.self.inside.waits c.self.invariant.waits (subst (HasDeadlines constants) (sym c.self.view_is) deadlines)
    c.in-None.ensures c.next_moment.result c.next_moment.ensures)
