use Rattle.std.proofs.Common.{sym, subst}
use Rattle.std.specs.Option.{option_map}
use Rattle.kernel_model.specs.State.{State}
use Rattle.kernel_model.specs.Waits.{HasDeadlines}
use Rattle.readiness_laws.specs.NextReady.{thread_at, IsNextReady}
use Rattle.kernel_core.specs.contracts.kernel.Kernel.{the_view}
use Rattle.kernel_invariant.proofs.HeldTests.{next_of_tested, tested_is_held}
use Rattle.kernel_core.proofs.kernel.Kernel.settle_next.Goals as goal

pub invariant_of-self : goal.invariant_of-self
invariant_of-self g c =
    let constants = c.args.constants.now in
    let deadlines = subst (HasDeadlines constants) (sym c.self.view_is) c.requires.deadlines in
    record {
      kept = c.self.invariant.kept;
      waits =
          tested_is_held constants (the_view c.self.inside) c.self.inside.waits c.self.invariant.waits deadlines c.next_settled-next.new.self c.gather.new.waits
          c.next_settled-next.ensures.marks c.gather.ensures;
    }

pub returns-clause-next : goal.returns-clause-next
returns-clause-next g c =
    let constants = c.args.constants.now in
    let deadlines = subst (HasDeadlines constants) (sym c.self.view_is) c.requires.deadlines in
    subst (λ (S : State). IsNextReady constants S (option_map thread_at c.args.after) (option_map thread_at c.next_settled-next.result)) c.self.view_is
    (next_of_tested constants (the_view c.self.inside) c.self.inside.waits c.self.invariant.waits deadlines c.args.after c.next_settled-next.result
    c.next_settled-next.ensures.next)
