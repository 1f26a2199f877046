use Rattle.rv_interp.specs.Machine.{machine}
use Rattle.rv_interp.proofs.Slots.{all_aligned, all_kept, code_kept}
use Rattle.rv_interp.proofs.TurnLaws.{does-none}
use Rattle.rv_interp.proofs.cache.Cache.run.Goals as goal

pub find-requires : goal.find-requires
find-requires c = all_aligned c.args.mem.now c.args.self.now c.requires

pub returns-in_default-clause-done : goal.returns-in_default-clause-done
returns-in_default-clause-done c = does-none (machine c.args.regs.now c.args.mem.now c.args.held.now)

pub returns-clause-slots : goal.returns-clause-slots
returns-clause-slots c =
    all_kept c.args.mem.now c.run_regions.new.mem c.args.self.now (code_kept c.args.mem.now c.run_regions.new.mem c.run_regions.ensures.unwritable) c.requires
