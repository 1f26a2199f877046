use Rattle.std.proofs.Common.{◌≡◌}
use Rattle.guest_memory.specs.Room.{without_each, AreAdded}
use Rattle.guest_memory.proofs.room.add_pages_listed.Given as goal

abbrev pub invariant-loop-index : goal.invariant-loop-index
invariant-loop-index l = record {
  pages : AreAdded l.initial.pages l.first l.index l.pages;
  added : without_each l.added.items l.pages ≡ l.initial.pages;
}
