use Rattle.std.proofs.Common.{◌+◌, ◌-◌, ◌≤◌}
use Rattle.guest_memory.specs.Mapping.{NoneExecutable}
use Rattle.guest_memory.proofs.page_map.has_executable.Given as goal

abbrev pub invariant-loop-number : goal.invariant-loop-number
invariant-loop-number l = record {
  low : l.first ≤ l.from;
  high : l.from ≤ l.first + l.count;
  none : NoneExecutable l.pages l.first (l.from - l.first);
}

abbrev pub decreases-loop-number : goal.decreases-loop-number
decreases-loop-number l = l.first + l.count - l.from
