use Rattle.wait_set.specs.Waits.{so_changed, is_everywhere, touched}
use Rattle.wait_set.proofs.Walking.{Walked, remaining}
use Rattle.wait_set.proofs.wait_set.WaitSet.touch_everywhere.Given as goal

abbrev pub invariant-loop-thread : goal.invariant-loop-thread
invariant-loop-thread l = Walked (so_changed is_everywhere (λ _ s. touched s)) l.after l.fn.self l.self

abbrev pub decreases-loop-thread : goal.decreases-loop-thread
decreases-loop-thread l = remaining is_everywhere l.after l.fn.self
