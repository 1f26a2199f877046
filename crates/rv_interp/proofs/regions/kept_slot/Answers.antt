use Rattle.std.proofs.Common.{◌≡◌, IfSome, Ok, sym, ap, subst, ◌∙◌}
use Rattle.rv_interp.specs.Cache.{IsTrueAt}
use Rattle.rv_interp.specs.Instructions.{instruction_at}
use Rattle.rv_interp.specs.Slots.{instr_of}
use Rattle.rv_interp.proofs.Slots.{if_some, kept_instruction}
use Rattle.rv_interp.proofs.regions.kept_slot.Goals as goal

pub returns-then-is_err-clause-slot : goal.returns-then-is_err-clause-slot
returns-then-is_err-clause-slot c =
    let same = c.instruction.ensures.same in
    let m = c.instruction.new.mem in
    let pc = c.args.pc in
    let instr = c.in-Ok.instr in
    let had : instruction_at m pc ≡ Ok instr = ap (λ n. instruction_at n pc) same ∙ sym c.instruction.ensures.exact ∙ c.in-Ok.is in
    subst (λ n. IfSome c.packed.result (IsTrueAt n pc)) same
    (if_some (λ slot. instr_of slot ≡ instr) (IsTrueAt m pc) c.packed.result
    (λ slot equal. kept_instruction m pc slot instr c.check.result c.check.ensures.fault (sym c.is_err.ensures.value ∙ c.if-is_err.true) c.ranges.pc.fits had equal c.in-Ok.ensures.registers)
    c.packed.ensures)
