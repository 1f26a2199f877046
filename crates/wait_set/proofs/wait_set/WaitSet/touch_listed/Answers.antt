use Rattle.std.proofs.Common.{ap, ◌∙◌}
use Rattle.std.specs.FinMap.{get}
use Rattle.wait_set.specs.SpotQueues.{spot_has}
use Rattle.wait_set.specs.Waits.{WaitMap, lists, where_so, touched}
use Rattle.wait_set.proofs.Walks.{left_in, left_where, tied_left}
use Rattle.wait_set.proofs.wait_set.WaitSet.touch_listed.Goals as goal

pub invariant_of-self : goal.invariant_of-self
invariant_of-self c =
    tied_left c.self.inside.threads c.leave_each.new.threads (λ t. spot_has c.self.inside.queues c.args.spot t) c.leave_each.ensures.marks
    c.self.inside.queues c.self.inside.ready c.self.inside.everywhere c.self.inside.left c.leave_each.new.left c.self.inside.running _ _ c.self.invariant c.leave_each.ensures.set

pub returns : goal.returns
returns c =
    left_where (lists c.args.spot) c.self.inside.threads c.leave_each.new.threads
    (λ t. c.leave_each.ensures.marks t ∙ ap (λ b. left_in b (get c.self.inside.threads t)) (c.self.invariant.queued c.args.spot t))
    ∙ ap (λ (w : WaitMap). where_so (lists c.args.spot) (λ _ s. touched s) w) c.self.view_is
