use Rattle.guest_memory.specs.Mapping.{AreMapped}
use Rattle.guest_memory.proofs.room.reset_pages.Given as goal

abbrev pub invariant-loop-index : goal.invariant-loop-index
invariant-loop-index l = AreMapped l.initial.pages l.first l.index l.prot l.pages
