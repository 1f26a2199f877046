use Rattle.std.proofs.Common.{◌≡◌, take}
use Rattle.guest_memory.specs.Room.{without_each}
use Rattle.guest_memory.proofs.room.remove_each.Given as goal

abbrev pub invariant-loop-number : goal.invariant-loop-number
invariant-loop-number l = l.pages ≡ without_each (take l.number-index l.numbers) l.initial.pages
