use Rattle.std.proofs.Common.{sym, subst}
use Rattle.rv_interp.specs.Cache.{AreTrue}
use Rattle.rv_interp.proofs.Slots.{pushed_true}
use Rattle.rv_interp.proofs.cache.Cache.add.Goals as goal

pub returns-then-is_ok : goal.returns-then-is_ok
returns-then-is_ok c = λ m h new.
    subst (AreTrue m) (sym c.push.ensures.items)
    (pushed_true m _ c.self.inside.regions.items c.args.region (subst (AreTrue m) (sym c.self.view_is) h) new)

pub returns-else-is_ok : goal.returns-else-is_ok
returns-else-is_ok c = λ m h new.
    subst (AreTrue m) (sym c.push.ensures.items)
    (pushed_true m _ c.self.inside.regions.items c.args.region (subst (AreTrue m) (sym c.self.view_is) h) new)
