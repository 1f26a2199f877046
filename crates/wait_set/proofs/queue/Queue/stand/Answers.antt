use Rattle.std.proofs.Common.{◌<◌, sym, ap, subst, ◌∙◌, arith}
use Rattle.std.specs.FinMap.{insert}
use Rattle.wait_set.specs.Queued.{QueueSet, IsLeast}
use Rattle.wait_set.proofs.Least.{least_down, least_more, stood_above, stood_again}
use Rattle.wait_set.proofs.queue.Queue.stand.Goals as goal

pub invariant_of-self : goal.invariant_of-self
invariant_of-self c = subst (λ (r : QueueSet). IsLeast c.self.inside.first r) (sym c.in_err-insert.ensures.err) c.self.invariant

pub invariant_of-self-then-thread-self : goal.invariant_of-self-then-thread-self
invariant_of-self-then-thread-self c =
    subst (λ (r : QueueSet). IsLeast c.args.thread r) (sym c.in_ok-insert.ensures.ok)
    (least_down c.self.inside.first c.args.thread c.self.inside.rest c.self.invariant c.if-thread-self.true)

pub returns-then-thread-self-2-clause-ok : goal.returns-then-thread-self-2-clause-ok
returns-then-thread-self-2-clause-ok c =
    sym c.self.view_is
    ∙ sym (stood_again c.self.inside.first c.args.thread c.self.inside.rest c.if-thread-self-2.true)
    ∙ ap (λ (q : QueueSet). insert q c.args.thread tt) c.self.view_is

pub invariant_of-self-2 : goal.invariant_of-self-2
invariant_of-self-2 c =
    let less : c.self.inside.first < c.args.thread = omega (arith, c.if-thread-self.false, c.if-thread-self-2.false) in
    subst (λ (r : QueueSet). IsLeast c.self.inside.first r) (sym c.in_ok-insert-2.ensures.ok)
    (least_more c.self.inside.first c.args.thread c.self.inside.rest c.self.invariant less)

pub returns-clause-ok : goal.returns-clause-ok
returns-clause-ok c =
    let less : c.self.inside.first < c.args.thread = omega (arith, c.if-thread-self.false, c.if-thread-self-2.false) in
    ap (λ (r : QueueSet). insert r c.self.inside.first tt) c.in_ok-insert-2.ensures.ok
    ∙ stood_above c.self.inside.first c.args.thread c.self.inside.rest less
    ∙ ap (λ (q : QueueSet). insert q c.args.thread tt) c.self.view_is
