use Rattle.std.proofs.Common.{◌≡◌, Some, sym, ap, subst, ◌∙◌}
use Rattle.kernel_model.specs.Deadlines.{least_deadline}
use Rattle.kernel_model.specs.Families.Polls.{sooner}
use Rattle.kernel_model.specs.State.{State}
use Rattle.kernel_model.specs.Waits.{HasDeadlines}
use Rattle.kernel_parts.proofs.Walks.{IsPast}
use Rattle.kernel_core.specs.contracts.kernel.Kernel.{the_view}
use Rattle.kernel_invariant.proofs.HeldDeadlines.{least_of, until_all, until_at, until_past, IsLeastUntil}
use Rattle.kernel_core.proofs.kernel.Kernel.least_until.Goals as goal

pub loop-key-preserved : goal.loop-key-preserved
loop-key-preserved c =
    let T : State = the_view c.self.inside in
    let key = c.in-Some.key in
    let is : c.sooner-least.result ≡ sooner c.loop-key.least (until_at T key) =
    c.sooner-least.ensures ∙ ap (sooner c.loop-key.least) (c.until_of.ensures ∙ ap (λ (S : State). until_at S key) (sym c.self.view_is)) in
    subst (λ (S : State). IsLeastUntil (until_at S) (IsPast (Some key)) c.sooner-least.result) c.self.view_is
    (subst (IsLeastUntil (until_at T) (IsPast (Some key))) (sym is)
    (until_past T c.self.inside.waits c.self.invariant.waits.watched c.loop-key.after key c.in-Some.ensures c.loop-key.least
    (subst (λ (S : State). IsLeastUntil (until_at S) (IsPast c.loop-key.after) c.loop-key.least) (sym c.self.view_is) c.loop-key.invariant)))

pub returns : goal.returns
returns c = λ constants deadlines.
    let T : State = the_view c.self.inside in
    subst (λ (S : State). c.loop-key.least ≡ least_deadline S) c.self.view_is
    (least_of constants T c.self.inside.waits c.self.invariant.waits.watched (subst (HasDeadlines constants) (sym c.self.view_is) deadlines) c.loop-key.least
    (until_all T c.self.inside.waits c.self.invariant.waits.watched c.loop-key.after c.in_default.ensures c.loop-key.least
    (subst (λ (S : State). IsLeastUntil (until_at S) (IsPast c.loop-key.after) c.loop-key.least) (sym c.self.view_is) c.loop-key.invariant)))
