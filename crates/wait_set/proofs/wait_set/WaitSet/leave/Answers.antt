use Rattle.std.proofs.Common.{IsSome, nat_eq, sym, subst}
use Rattle.std.specs.FinMap.{get}
use Rattle.wait_set.specs.Waits.{WaitMap}
use Rattle.wait_set.proofs.Walks.{left_one, tied_left}
use Rattle.wait_set.proofs.wait_set.WaitSet.leave.Goals as goal

pub invariant_of-self : goal.invariant_of-self
invariant_of-self c =
    tied_left c.self.inside.threads c.leave.new.threads (λ t. nat_eq t c.args.thread)
    (left_one c.self.inside.threads c.leave.new.threads c.args.thread (subst (λ (w : WaitMap). IsSome (get w c.args.thread)) (sym c.self.view_is) c.requires) c.leave.ensures.marks)
    c.self.inside.queues c.self.inside.ready c.self.inside.everywhere c.self.inside.left c.leave.new.left c.self.inside.running _ _ c.self.invariant c.leave.ensures.set
