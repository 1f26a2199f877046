use Rattle.rv_interp.proofs.Slots.{set_true}
use Rattle.rv_interp.proofs.regions.put.Goals as goal

pub returns : goal.returns
returns c = λ m base h kept. set_true m base c.args.slots.now.items c.args.at c.args.slot h kept c.requires
