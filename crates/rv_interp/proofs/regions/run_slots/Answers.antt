use Rattle.std.proofs.Common.{◌+◌, ◌-◌, ◌<◌, length, arith}
use Rattle.rv_interp.specs.declared.execution.Outcome.TheVariants as outcome
use Rattle.rv_interp.proofs.KeptLaws.{at_place, call_at, ended_at, kept_on, more_since, next_within, none_since}
use Rattle.rv_interp.proofs.Slots.{code_kept, from_kept}
use Rattle.rv_interp.proofs.regions.run_slots.Goals as goal
use Rattle.rv_interp.proofs.regions.run_slots.Goals.{else-place-before-via-then-place-before+else-place-slots, else-place-before-via-else-place-before}

pub loop-done-init : goal.loop-done-init
loop-done-init c =
    record {
      done = none_since c.args.from (at_place c.args.regs.now c.args.base c.args.at c.args.mem.now c.args.held.now);
      slots = c.requires.slots;
      within = c.requires.at;
      unwritable = λ number p there locked. there;
    }

pub execute_at-requires-clause-names : goal.execute_at-requires-clause-names
execute_at-requires-clause-names c =
    let kept = c.slot_at-slot.ensures.kept c.loop-done.mem c.args.base c.loop-done.invariant.slots in kept.registers

pub loop-done-preserved : goal.loop-done-preserved
loop-done-preserved c =
    let behind : c.loop-done.place + 1 < length c.args.slots.now =
    next_within c.loop-done.place (length c.args.slots.now) (at_place c.loop-done.regs c.args.base c.loop-done.place c.loop-done.mem c.loop-done.held) c.slot_at-slot.result.now
    (at_place c.execute_at.new.regs c.args.base c.execute_at.new.at c.execute_at.new.mem c.execute_at.new.held)
    c.loop-done.invariant.within (c.slot_at-slot.ensures.last c.loop-done.mem c.args.base c.loop-done.invariant.slots) c.in-Done.ensures.exact in
    record {
      done = more_since c.loop-done.done c.args.from (at_place c.args.regs.now c.args.base c.args.at c.args.mem.now c.args.held.now)
          c.loop-done.regs c.args.base c.loop-done.place c.loop-done.mem c.loop-done.held c.slot_at-slot.result.now
          (at_place c.execute_at.new.regs c.args.base c.execute_at.new.at c.execute_at.new.mem c.execute_at.new.held)
          (omega (arith, c.loop-done.auto.done)) c.loop-done.invariant.done (c.slot_at-slot.ensures.kept c.loop-done.mem c.args.base c.loop-done.invariant.slots) c.in-Done.ensures.exact;
      slots = from_kept c.loop-done.mem c.execute_at.new.mem c.args.base c.args.slots.now
          (code_kept c.loop-done.mem c.execute_at.new.mem c.execute_at.ensures.unwritable) c.loop-done.invariant.slots;
      within = elim c.else-place-before.branch [
        | else-place-before-via-then-place-before+else-place-slots w ↦ w.if-place-slots.false
        | else-place-before-via-else-place-before w ↦ omega (arith, w.if-place-before.false, behind)
      ];
      unwritable = kept_on c.args.mem.now c.loop-done.mem c.execute_at.new.mem c.loop-done.invariant.unwritable c.execute_at.ensures.unwritable;
    }

pub returns-then-place-slots-clause-done : goal.returns-then-place-slots-clause-done
returns-then-place-slots-clause-done c =
    more_since c.loop-done.done c.args.from (at_place c.args.regs.now c.args.base c.args.at c.args.mem.now c.args.held.now)
    c.loop-done.regs c.args.base c.loop-done.place c.loop-done.mem c.loop-done.held c.slot_at-slot.result.now
    (at_place c.execute_at.new.regs c.args.base c.execute_at.new.at c.execute_at.new.mem c.execute_at.new.held)
    (omega (arith, c.loop-done.auto.done)) c.loop-done.invariant.done (c.slot_at-slot.ensures.kept c.loop-done.mem c.args.base c.loop-done.invariant.slots) c.in-Done.ensures.exact

pub returns-in-Ecall-clause-done : goal.returns-in-Ecall-clause-done
returns-in-Ecall-clause-done c =
    ended_at (c.loop-done.done - c.args.from) (at_place c.args.regs.now c.args.base c.args.at c.args.mem.now c.args.held.now)
    (at_place c.loop-done.regs c.args.base c.loop-done.place c.loop-done.mem c.loop-done.held) c.slot_at-slot.result.now outcome.Ecall
    (at_place c.execute_at.new.regs c.args.base c.execute_at.new.at c.execute_at.new.mem c.execute_at.new.held)
    c.loop-done.invariant.done c.in-Ecall.ensures.exact (λ x. absurd (cc))

pub returns-in-Ecall-clause-call : goal.returns-in-Ecall-clause-call
returns-in-Ecall-clause-call c = λ yes.
    call_at c.loop-done.regs c.args.base c.loop-done.place c.loop-done.mem c.loop-done.held c.slot_at-slot.result.now
    (at_place c.execute_at.new.regs c.args.base c.execute_at.new.at c.execute_at.new.mem c.execute_at.new.held)
    (c.slot_at-slot.ensures.kept c.loop-done.mem c.args.base c.loop-done.invariant.slots) c.in-Ecall.ensures.exact

pub returns-in-Trap-clause-done : goal.returns-in-Trap-clause-done
returns-in-Trap-clause-done c =
    ended_at (c.loop-done.done - c.args.from) (at_place c.args.regs.now c.args.base c.args.at c.args.mem.now c.args.held.now)
    (at_place c.loop-done.regs c.args.base c.loop-done.place c.loop-done.mem c.loop-done.held) c.slot_at-slot.result.now (outcome.Trap c.in-Trap.field-0)
    (at_place c.execute_at.new.regs c.args.base c.execute_at.new.at c.execute_at.new.mem c.execute_at.new.held)
    c.loop-done.invariant.done c.in-Trap.ensures.exact (λ x. absurd (cc))
