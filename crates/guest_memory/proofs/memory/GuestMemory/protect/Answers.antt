use Rattle.std.proofs.Common.{◌/◌}
use Rattle.guest_memory.proofs.KeptLimits.{keeps_protected}
use Rattle.guest_memory.proofs.memory.GuestMemory.protect.Goals as goal

pub invariant_of-self : goal.invariant_of-self
invariant_of-self c =
    keeps_protected c.self.inside.pages c.protect_pages.new.pages
    (c.args.at / 4096) c.from-count.result c.args.prot c.self.invariant
    c.in_default.ensures c.protect_pages.ensures
