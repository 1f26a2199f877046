use Rattle.rv_interp.proofs.cache.Cache.learn.Goals as goal

pub returns-in-None-clause-slots : goal.returns-in-None-clause-slots
returns-in-None-clause-slots c = c.open.ensures c.args.mem.now c.requires
