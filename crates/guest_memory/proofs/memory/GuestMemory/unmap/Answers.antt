use Rattle.std.proofs.Common.{◌/◌}
use Rattle.guest_memory.proofs.KeptLimits.{keeps_unmapped}
use Rattle.guest_memory.proofs.memory.GuestMemory.unmap.Goals as goal

pub invariant_of-self : goal.invariant_of-self
invariant_of-self c = keeps_unmapped c.self.inside.pages c.remove_pages.new.pages
    (c.args.at / 4096) c.from.result c.self.invariant c.remove_pages.ensures
