use Rattle.rv_interp.proofs.Slots.{all_kept, code_kept}
use Rattle.rv_interp.proofs.cache.Cache.step.Goals as goal

pub returns-clause-slots : goal.returns-clause-slots
returns-clause-slots c =
    all_kept c.learn.new.mem c.step.new.mem c.learn.new.self (code_kept c.learn.new.mem c.step.new.mem c.step.ensures.unwritable) c.learn.ensures.slots
