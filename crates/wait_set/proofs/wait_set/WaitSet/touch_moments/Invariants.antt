use Rattle.wait_set.proofs.Moments.{Reached, moments_left}
use Rattle.wait_set.proofs.wait_set.WaitSet.touch_moments.Given as goal

abbrev pub invariant-loop-moment : goal.invariant-loop-moment
invariant-loop-moment l = Reached l.fn.self l.self l.fn.after l.reached l.until

abbrev pub decreases-loop-moment : goal.decreases-loop-moment
decreases-loop-moment l = moments_left l.reached l.until
