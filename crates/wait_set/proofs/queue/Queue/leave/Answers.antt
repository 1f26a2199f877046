use Rattle.std.proofs.Common.{◌≡◌, ◌≤◌, ℕ, IsSome, Some, sym, ap, subst, ◌∙◌}
use Rattle.std.specs.FinMap.{get, insert, remove}
use Rattle.wait_set.specs.Queued.{QueueSet, IsLeast}
use Rattle.wait_set.proofs.Least.{if_at, least_fewer, least_left, left_first, left_other, others_stay, some_unless}
use Rattle.wait_set.proofs.queue.Queue.leave.Goals as goal

pub invariant_of-self : goal.invariant_of-self
invariant_of-self c =
    subst (λ (r : QueueSet). IsLeast c.self.inside.first r) (sym c.remove.ensures.new)
    (least_fewer c.self.inside.first c.args.thread c.self.inside.rest c.self.invariant)

pub returns-then-thread-self : goal.returns-then-thread-self
returns-then-thread-self c =
    ap (λ (r : QueueSet). insert r c.self.inside.first tt) c.remove.ensures.new
    ∙ left_other c.self.inside.first c.args.thread c.self.inside.rest c.if-thread-self.true
    ∙ ap (λ (q : QueueSet). remove q c.args.thread) c.self.view_is

pub unwrap-next-requires : goal.unwrap-next-requires
unwrap-next-requires c =
    some_unless c.pop_first.result _ c.pop_first.ensures.none
    (others_stay c.self.inside.first c.args.thread c.self.inside.rest c.self.invariant c.if-thread-self.false
    (λ none. c.requires (ap (λ (q : QueueSet). remove q c.args.thread) (sym c.self.view_is) ∙ none)))

pub invariant_of-self-2 : goal.invariant_of-self-2
invariant_of-self-2 c =
    let taken = if_at c.pop_first.result c.unwrap-next.result (λ (entry : ℕ × Unit {0}). c.pop_first.new.self ≡ remove c.self.inside.rest entry.0) c.unwrap-next.ensures c.pop_first.ensures.new in
    subst (λ (r : QueueSet). IsLeast c.unwrap-next.result.0 r) (sym taken)
    (least_left c.unwrap-next.result.0 c.self.inside.rest
    (if_at c.pop_first.result c.unwrap-next.result (λ (entry : ℕ × Unit {0}). (q : ℕ) → IsSome (get c.self.inside.rest q) → entry.0 ≤ q) c.unwrap-next.ensures c.pop_first.ensures.least))

pub returns : goal.returns
returns c =
    let taken = if_at c.pop_first.result c.unwrap-next.result (λ (entry : ℕ × Unit {0}). c.pop_first.new.self ≡ remove c.self.inside.rest entry.0) c.unwrap-next.ensures c.pop_first.ensures.new in
    ap (λ (r : QueueSet). insert r c.unwrap-next.result.0 tt) taken
    ∙ left_first c.self.inside.first c.args.thread c.unwrap-next.result.0 c.self.inside.rest c.self.invariant c.if-thread-self.false
    (if_at c.pop_first.result c.unwrap-next.result (λ (entry : ℕ × Unit {0}). get c.self.inside.rest entry.0 ≡ Some entry.1) c.unwrap-next.ensures c.pop_first.ensures.value)
    ∙ ap (λ (q : QueueSet). remove q c.args.thread) c.self.view_is
