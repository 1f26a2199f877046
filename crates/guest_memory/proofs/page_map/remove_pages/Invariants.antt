use Rattle.std.specs.FinMap.{len}
use Rattle.guest_memory.specs.Mapping.{AreSameOutside}
use Rattle.guest_memory.proofs.page_map.remove_pages.Given as goal

abbrev pub invariant-loop-number : goal.invariant-loop-number
invariant-loop-number l = AreSameOutside l.initial.pages l.first l.count l.pages

abbrev pub decreases-loop-number : goal.decreases-loop-number
decreases-loop-number l = len l.pages
