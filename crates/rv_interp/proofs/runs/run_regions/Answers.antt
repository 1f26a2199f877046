use Rattle.std.proofs.Common.{sym, ap, subst, ◌∙◌, arith}
use Rattle.abi_base.specs.Registers.{Registers, with_pc}
use Rattle.rv_interp.specs.Cache.{IsFound, IsPlaceOf}
use Rattle.rv_interp.specs.Machine.{machine}
use Rattle.rv_interp.specs.Slots.{address_at}
use Rattle.rv_interp.proofs.KeptLaws.{both_since, found_at, kept_on}
use Rattle.rv_interp.proofs.Slots.{all_kept, code_kept}
use Rattle.rv_interp.proofs.TurnLaws.{does-none}
use Rattle.rv_interp.proofs.runs.run_regions.Goals as goal

pub loop-done-init : goal.loop-done-init
loop-done-init c =
    record {
      done = does-none (machine c.args.regs.now c.args.mem.now c.args.held.now);
      few = omega (arith);
      regions = c.requires.slots;
      here = c.requires.first;
      last = c.requires.first.within;
      unwritable = λ number p there locked. there;
    }

pub loop-done-preserved : goal.loop-done-preserved
loop-done-preserved c =
    let region = c.index-regions-here.result in
    let stop = c.run_slots-stop in
    let found : IsPlaceOf region c.loop-done.regs.pc c.loop-done.here.at = found_at c.args.regions.now c.loop-done.regs.pc c.loop-done.here region c.index-regions-here.is c.loop-done.invariant.here in
    record {
      done = both_since c.loop-done.done stop.result.done (machine c.args.regs.now c.args.mem.now c.args.held.now) c.loop-done.regs c.set_pc.new.self (with_pc stop.new.regs (address_at region.base stop.result.at))
          c.loop-done.mem stop.new.mem c.loop-done.held stop.new.held (address_at region.base c.loop-done.here.at) stop.ensures.since found.address (c.set_pc.ensures ∙ ap (with_pc stop.new.regs) c.address_at-pc.ensures)
          c.loop-done.invariant.done stop.ensures.done;
      few = stop.ensures.few;
      regions = all_kept c.loop-done.mem stop.new.mem c.args.regions.now (code_kept c.loop-done.mem stop.new.mem stop.ensures.unwritable) c.loop-done.invariant.regions;
      here = subst (λ p. IsFound c.args.regions.now p c.in-Some.next) (sym (ap (λ (r : Registers). r.pc) c.set_pc.ensures)) c.in-Some.ensures;
      last = c.loop-done.invariant.here.within;
      unwritable = kept_on c.args.mem.now c.loop-done.mem stop.new.mem c.loop-done.invariant.unwritable stop.ensures.unwritable;
    }

pub returns-then-stop-clause-done : goal.returns-then-stop-clause-done
returns-then-stop-clause-done c =
    let region = c.index-regions-here.result in
    let stop = c.run_slots-stop in
    let found : IsPlaceOf region c.loop-done.regs.pc c.loop-done.here.at = found_at c.args.regions.now c.loop-done.regs.pc c.loop-done.here region c.index-regions-here.is c.loop-done.invariant.here in
    both_since c.loop-done.done stop.result.done (machine c.args.regs.now c.args.mem.now c.args.held.now) c.loop-done.regs c.set_pc.new.self (with_pc stop.new.regs (address_at region.base stop.result.at))
    c.loop-done.mem stop.new.mem c.loop-done.held stop.new.held (address_at region.base c.loop-done.here.at) stop.ensures.since found.address (c.set_pc.ensures ∙ ap (with_pc stop.new.regs) c.address_at-pc.ensures)
    c.loop-done.invariant.done stop.ensures.done

pub returns-in_default-clause-done : goal.returns-in_default-clause-done
returns-in_default-clause-done c =
    let region = c.index-regions-here.result in
    let stop = c.run_slots-stop in
    let found : IsPlaceOf region c.loop-done.regs.pc c.loop-done.here.at = found_at c.args.regions.now c.loop-done.regs.pc c.loop-done.here region c.index-regions-here.is c.loop-done.invariant.here in
    both_since c.loop-done.done stop.result.done (machine c.args.regs.now c.args.mem.now c.args.held.now) c.loop-done.regs c.set_pc.new.self (with_pc stop.new.regs (address_at region.base stop.result.at))
    c.loop-done.mem stop.new.mem c.loop-done.held stop.new.held (address_at region.base c.loop-done.here.at) stop.ensures.since found.address (c.set_pc.ensures ∙ ap (with_pc stop.new.regs) c.address_at-pc.ensures)
    c.loop-done.invariant.done stop.ensures.done
