use Rattle.std.proofs.Common.{ℕ, Option, None, Some, sym, subst, ◌∙◌}
use Rattle.std.specs.FinMap.{contains_key}
use Rattle.wait_set.specs.Next.{IsFirst}
use Rattle.wait_set.specs.Waits.{WaitMap}
use Rattle.wait_set.proofs.Between.{first_none, first_some, first_late}
use Rattle.wait_set.proofs.wait_set.WaitSet.first_between.Goals as goal

pub returns-in_err-thread : goal.returns-in_err-thread
returns-in_err-thread c =
    subst (λ (r : Option ℕ). IsFirst (λ t. contains_key c.args.self.now t) c.args.from c.args.end r) (sym c.from_residual.ensures)
    (subst (λ (w : WaitMap). IsFirst (λ t. contains_key w t) c.args.from c.args.end None) c.self.view_is
    (first_none c.args.from c.args.end c.self.inside.threads (sym c.first_from.ensures ∙ c.in_err-thread.was)))

pub returns-then-thread-end : goal.returns-then-thread-end
returns-then-thread-end c =
    subst (λ (w : WaitMap). IsFirst (λ t. contains_key w t) c.args.from c.args.end (Some c.in_ok-thread.thread)) c.self.view_is
    (first_some c.args.from c.args.end c.in_ok-thread.thread c.self.inside.threads (sym c.first_from.ensures ∙ c.in_ok-thread.was) c.if-thread-end.true)

pub returns-else-thread-end : goal.returns-else-thread-end
returns-else-thread-end c =
    subst (λ (w : WaitMap). IsFirst (λ t. contains_key w t) c.args.from c.args.end None) c.self.view_is
    (first_late c.args.from c.args.end c.in_ok-thread.thread c.self.inside.threads (sym c.first_from.ensures ∙ c.in_ok-thread.was) c.if-thread-end.false)
