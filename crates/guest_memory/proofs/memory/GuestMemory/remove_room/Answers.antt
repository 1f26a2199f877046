use Rattle.std.proofs.Common.{sym, subst}
use Rattle.guest_memory.specs.Limits.{KeepsLimits}
use Rattle.guest_memory.proofs.ListedPages.{keeps_without_each}
use Rattle.guest_memory.proofs.memory.GuestMemory.remove_room.Goals as goal

pub invariant_of-self : goal.invariant_of-self
invariant_of-self c =
    subst KeepsLimits (sym c.remove_each.ensures)
    (keeps_without_each c.deref.result.now c.self.inside.pages c.self.invariant)
