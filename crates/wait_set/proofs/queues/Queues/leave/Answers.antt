use Rattle.std.proofs.Common.{◌≡◌, ◌&&◌, not, Some, sym, ap, subst, ◌∙◌}
use Rattle.std.specs.Bool.{nat_eq}
use Rattle.std.specs.FinMap.{insert, remove, empty_of_len}
use Rattle.wait_set.specs.Queued.{has_at, NoneEmpty}
use Rattle.wait_set.proofs.Queueing.{Queue, put_some, remove_some, left_kept, left_only}
use Rattle.wait_set.proofs.queues.Queues.leave.Goals as goal

pub invariant_of-self : goal.invariant_of-self
invariant_of-self c = subst NoneEmpty (sym c.remove.ensures.new) (remove_some c.self.inside.by_number c.args.number c.self.invariant)

pub returns-then-is_only : goal.returns-then-is_only
returns-then-is_only c = λ n t.
    left_only c.self.inside.by_number c.remove.new.self c.args.number c.args.thread c.in-Some.queue.now c.in-Some.ensures.value (c.is_only.ensures.only c.if-is_only.true) c.remove.ensures.new n t
    ∙ ap (λ m. has_at m n t && not (nat_eq n c.args.number && nat_eq t c.args.thread)) c.self.view_is

pub invariant_of-self-2 : goal.invariant_of-self-2
invariant_of-self-2 c =
    let is : Some c.in-Some.queue.now ≡ Some c.get_mut.result.now = c.in-Some.ensures.value ∙ sym c.get_mut.ensures.value in
    let same : c.in-Some.queue.now ≡ c.get_mut.result.now = cc in
    put_some c.self.inside.by_number c.args.number c.leave.new.self c.self.invariant
    (λ none. c.is_only.ensures.more c.if-is_only.false (ap (λ (q : Queue). remove q c.args.thread) same ∙ sym c.leave.ensures ∙ empty_of_len _ none))

pub returns : goal.returns
returns c = λ n t.
    left_kept c.self.inside.by_number (insert c.self.inside.by_number c.args.number c.leave.new.self) c.args.number c.args.thread
    c.get_mut.result.now c.get_mut.ensures.value (ap (λ (q : Queue). insert c.self.inside.by_number c.args.number q) c.leave.ensures) n t
    ∙ ap (λ m. has_at m n t && not (nat_eq n c.args.number && nat_eq t c.args.thread)) c.self.view_is
