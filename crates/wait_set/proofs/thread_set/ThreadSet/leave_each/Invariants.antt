use Rattle.std.specs.FinMap.{from_entries}
use Rattle.wait_set.proofs.Walks.{Leaving}
use Rattle.wait_set.proofs.thread_set.ThreadSet.leave_each.Given as goal

abbrev pub invariant-loop-thread : goal.invariant-loop-thread
invariant-loop-thread l =
    goal.iterator-loop-thread.can_next l.thread-iterator
    × goal.iterator-loop-thread.is_finite l.thread-iterator
    × Leaving (from_entries l.thread-iterator) l.self l.fn.threads l.threads l.left
