use Rattle.std.proofs.Common.{Some, None, ◌∙◌}
use Rattle.guest_locks.specs.Queues.{since_in}
use Rattle.guest_locks.proofs.Firsts.{earliest_at}
use Rattle.guest_locks.proofs.queues.earliest_in.Goals as goal

pub returns-in-Some : goal.returns-in-Some
returns-in-Some c = c.since_at.ensures ∙ earliest_at (since_in c.args.queue) c.args.threads.now (Some c.in-Some.tid) c.in-Some.ensures

pub returns-in-None : goal.returns-in-None
returns-in-None c = earliest_at (since_in c.args.queue) c.args.threads.now None c.in-None.ensures
