use Rattle.std.proofs.Common.{sym, ap, ◌∙◌}
use Rattle.kernel_model.specs.Deadlines.{soon}
use Rattle.poll_set.proofs.PollReads.{poll_until}
use Rattle.poll_set.proofs.clocks.poll_deadline.Goals as goal

pub returns : goal.returns
returns c = c.soonest.ensures ∙ sym (ap soon (poll_until c.args.constants.now c.args.since c.args.subscriptions.now))
