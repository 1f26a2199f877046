use Rattle.std.proofs.Common.{sym, subst}
use Rattle.rv_interp.specs.Cache.{AreTrueFrom, IsTrueAt}
use Rattle.rv_interp.specs.Slots.{address_at}
use Rattle.rv_interp.proofs.regions.Region.decode.Goals as goal

pub returns-clause-slots : goal.returns-clause-slots
returns-clause-slots c = λ h.
    let same = c.kept_slot.ensures.same in
    let base = c.args.self.now.base in
    c.put.ensures c.kept_slot.new.mem base (subst (λ m. AreTrueFrom m base c.args.self.now.slots.items) (sym same) h)
    (subst (λ m. IsTrueAt m (address_at base c.args.at) c.in-Some.slot) (sym same) (subst (λ a. IsTrueAt c.args.mem.now a c.in-Some.slot) c.address_at.ensures c.in-Some.ensures.slot))
