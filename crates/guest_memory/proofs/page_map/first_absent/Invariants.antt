use Rattle.guest_memory.specs.Mapping.{AreThere}
use Rattle.guest_memory.proofs.page_map.first_absent.Given as goal

abbrev pub invariant-loop-index : goal.invariant-loop-index
invariant-loop-index l = AreThere l.pages l.first l.index
