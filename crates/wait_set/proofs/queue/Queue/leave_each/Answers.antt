use Rattle.std.proofs.Common.{◌∙◌}
use Rattle.std.specs.FinMap.{insert}
use Rattle.wait_set.proofs.Walks.{leaving_first, leaving_begun, next_there}
use Rattle.wait_set.proofs.queue.Queue.leave_each.Goals as goal

pub leave-requires-clause-there : goal.leave-requires-clause-there
leave-requires-clause-there c =
    next_there c.self.inside.rest c.args.self.now c.self.inside.first c.args.threads.now c.args.threads.now c.args.left.now
    (leaving_first (insert c.self.inside.rest c.self.inside.first tt) c.args.self.now c.args.threads.now c.args.left.now c.self.view_is c.requires.there c.requires.set)

pub leave_each-requires-clause-there : goal.leave_each-requires-clause-there
leave_each-requires-clause-there c =
    let begun = leaving_begun c.self.inside.rest c.args.self.now c.self.inside.first c.args.threads.now c.leave.new.threads c.args.left.now c.leave.new.left
    c.self.view_is c.requires.there c.requires.set c.leave.ensures.marks c.leave.ensures.set in
    begun.there

pub returns-clause-marks : goal.returns-clause-marks
returns-clause-marks c = λ t.
    let begun = leaving_begun c.self.inside.rest c.args.self.now c.self.inside.first c.args.threads.now c.leave.new.threads c.args.left.now c.leave.new.left
    c.self.view_is c.requires.there c.requires.set c.leave.ensures.marks c.leave.ensures.set in
    c.leave_each.ensures.marks t ∙ begun.marks t
