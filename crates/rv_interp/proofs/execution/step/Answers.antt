use Rattle.std.proofs.Common.{ap, ◌∙◌}
use Rattle.abi_base.specs.Registers.{with_pc}
use Rattle.rv_interp.specs.Machine.{machine}
use Rattle.rv_interp.proofs.Stops.{parts_unchanged}
use Rattle.rv_interp.proofs.execution.step.Goals as goal

pub returns-in-Ok-clause-unchanged : goal.returns-in-Ok-clause-unchanged
returns-in-Ok-clause-unchanged c = λ n.
    let done = c.execute-outcome in
    let same =
    parts_unchanged c.in-Ok.instr (machine (with_pc c.args.regs.now c.pc-pc.result) c.instruction.new.mem c.args.held.now) done.result (with_pc done.new.regs done.new.pc) done.new.mem done.new.held done.ensures.exact n in
    (c.set_pc.ensures ∙ same.0 ∙ ap (with_pc c.args.regs.now) c.pc-pc.ensures, same.1 ∙ c.instruction.ensures.same, same.2)
