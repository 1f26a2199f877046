use Rattle.guest_memory.specs.Mapping.{AreProtected}
use Rattle.guest_memory.proofs.page_map.protect_pages.Given as goal

abbrev pub invariant-loop-index : goal.invariant-loop-index
invariant-loop-index l = AreProtected l.initial.pages l.first l.index l.prot l.pages
