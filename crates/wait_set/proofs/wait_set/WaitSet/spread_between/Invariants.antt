use Rattle.std.proofs.Common.{◌-◌, ◌≤◌}
use Rattle.std.specs.Option.{option_map}
use Rattle.wait_set.specs.Waits.{spread_out}
use Rattle.wait_set.proofs.Between.{Between}
use Rattle.wait_set.proofs.wait_set.WaitSet.spread_between.Given as goal

abbrev pub invariant-loop-thread : goal.invariant-loop-thread
invariant-loop-thread l = record { walked : Between (option_map spread_out) l.first l.end l.from l.fn.self l.self; start : l.first ≤ l.from }

abbrev pub decreases-loop-thread : goal.decreases-loop-thread
decreases-loop-thread l = l.end - l.from
