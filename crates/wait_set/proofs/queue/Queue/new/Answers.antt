use Rattle.wait_set.proofs.Least.{least_none}
use Rattle.wait_set.proofs.queue.Queue.new.Goals as goal

pub invariant_of-result : goal.invariant_of-result
invariant_of-result c = least_none c.args.thread c.new.result c.new.ensures
