use Rattle.std.proofs.Common.{◌≡◌, ◌+◌, ◌-◌, ◌≤◌}
use Rattle.std.specs.FinMap.{len}
use Rattle.guest_memory.specs.Changes.{without_pages}
use Rattle.guest_memory.proofs.page_map.count_pages.Given as goal

abbrev pub invariant-loop-number : goal.invariant-loop-number
invariant-loop-number l = record {
  few : l.found + l.first ≤ l.from;
  high : l.from ≤ l.first + l.count;
  counted : l.found + len (without_pages l.pages l.first (l.from - l.first)) ≡ len l.pages;
}

abbrev pub decreases-loop-number : goal.decreases-loop-number
decreases-loop-number l = l.first + l.count - l.from
