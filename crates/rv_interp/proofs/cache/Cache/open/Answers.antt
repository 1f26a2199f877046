use Rattle.std.proofs.Common.{sym, subst, ◌∙◌}
use Rattle.rv_interp.specs.Cache.{AreTrue}
use Rattle.rv_interp.proofs.cache.Cache.open.Goals as goal

pub returns-in-Ok : goal.returns-in-Ok
returns-in-Ok c = λ m h.
    c.add.ensures m (c.make_room.ensures m (subst (AreTrue m) (sym (c.may_take.ensures ∙ c.may_look.ensures)) h)) (c.in-Ok.ensures m)

pub returns-in-Err : goal.returns-in-Err
returns-in-Err c = λ m h. c.make_room.ensures m (subst (AreTrue m) (sym (c.may_take.ensures ∙ c.may_look.ensures)) h)
