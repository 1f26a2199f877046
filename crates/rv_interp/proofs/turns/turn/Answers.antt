use Rattle.std.proofs.Common.{◌≡◌, ◌-◌, refl, sym, subst, arith}
use Rattle.rv_interp.specs.declared.execution.Outcome.TheVariants as outcome
use Rattle.rv_interp.specs.declared.turns.TurnEnd.TheVariants as turn_end
use Rattle.rv_interp.specs.Machine.{machine}
use Rattle.rv_interp.specs.Turns.{Does, fresh, Turns}
use Rattle.rv_interp.proofs.TurnLaws.{does-none, does-one-within, does-within, finished, finished-within, only, stopped, stopped-within}
use Rattle.rv_interp.proofs.turns.turn.Goals as goal

pub loop-init : goal.loop-init
loop-init c =
    record {
      done = subst (λ h. Does 0 (fresh c.args.mem.now c.args.regs.now) (machine c.args.regs.now c.args.mem.now h)) (sym c.none-held.ensures) (does-none (fresh c.args.mem.now c.args.regs.now));
      few = omega arith;
      slots = c.requires;
    }

-- ---- what is kept

pub returns-then-kept-clause-turns : goal.returns-then-kept-clause-turns
returns-then-kept-clause-turns c =
    let kept = c.run-kept in
    let at = machine kept.new.regs kept.new.mem kept.new.held in (
      kept.new.held,
      stopped-within c.loop.left kept.result.done (fresh c.args.mem.now c.args.regs.now) (machine c.loop.regs c.loop.mem c.loop.held) at at turn_end.Ecall outcome.Ecall refl
          c.loop.invariant.done kept.ensures.done (kept.ensures.more c.if-kept.true) (omega (arith, c.loop.invariant.few)) (kept.ensures.call c.if-kept.true),
    )

pub returns-then-kept-clause-exact : goal.returns-then-kept-clause-exact
returns-then-kept-clause-exact c =
    let kept = c.run-kept in
    let at = machine kept.new.regs kept.new.mem kept.new.held in
    only c.args.mem.now c.args.regs.now turn_end.Ecall kept.new.mem kept.new.regs (
      kept.new.held,
      stopped-within c.loop.left kept.result.done (fresh c.args.mem.now c.args.regs.now) (machine c.loop.regs c.loop.mem c.loop.held) at at turn_end.Ecall outcome.Ecall refl
          c.loop.invariant.done kept.ensures.done (kept.ensures.more c.if-kept.true) (omega (arith, c.loop.invariant.few)) (kept.ensures.call c.if-kept.true),
    )

pub returns-then-left-eq0-clause-turns : goal.returns-then-left-eq0-clause-turns
returns-then-left-eq0-clause-turns c =
    let kept = c.run-kept in (
      kept.new.held,
      finished-within c.loop.left kept.result.done (fresh c.args.mem.now c.args.regs.now) (machine c.loop.regs c.loop.mem c.loop.held)
          (machine kept.new.regs kept.new.mem kept.new.held) c.loop.invariant.done kept.ensures.done c.if-left-eq0.true kept.ensures.few (omega (arith, c.loop.invariant.few)),
    )

pub returns-then-left-eq0-clause-exact : goal.returns-then-left-eq0-clause-exact
returns-then-left-eq0-clause-exact c =
    let kept = c.run-kept in
    only c.args.mem.now c.args.regs.now turn_end.Quantum kept.new.mem kept.new.regs (
      kept.new.held,
      finished-within c.loop.left kept.result.done (fresh c.args.mem.now c.args.regs.now) (machine c.loop.regs c.loop.mem c.loop.held)
          (machine kept.new.regs kept.new.mem kept.new.held) c.loop.invariant.done kept.ensures.done c.if-left-eq0.true kept.ensures.few (omega (arith, c.loop.invariant.few)),
    )

-- ---- an instruction that isn't kept

-- the turn that ends at an ECALL
ecall : (c : goal.In-Ecall) → Turns c.args.mem.now c.args.regs.now turn_end.Ecall c.step.new.mem c.step.new.regs
ecall c =
    let before : Does (4096 - (c.loop.left - c.run-kept.result.done)) (fresh c.args.mem.now c.args.regs.now) (machine c.run-kept.new.regs c.run-kept.new.mem c.run-kept.new.held) =
    does-within c.loop.left c.run-kept.result.done (fresh c.args.mem.now c.args.regs.now) (machine c.loop.regs c.loop.mem c.loop.held)
    (machine c.run-kept.new.regs c.run-kept.new.mem c.run-kept.new.held) c.loop.invariant.done c.run-kept.ensures.done c.run-kept.ensures.few (omega (arith, c.loop.invariant.few)) in (
      c.step.new.held,
      stopped (4096 - (c.loop.left - c.run-kept.result.done)) (fresh c.args.mem.now c.args.regs.now) (machine c.run-kept.new.regs c.run-kept.new.mem c.run-kept.new.held)
          (machine c.step.new.regs c.step.new.mem c.step.new.held) turn_end.Ecall outcome.Ecall refl before (omega (arith, c.if-left-eq0.false, c.loop.invariant.few)) c.in-Ecall.ensures.exact,
    )

pub returns-in-Ecall-clause-turns : goal.returns-in-Ecall-clause-turns
returns-in-Ecall-clause-turns c = ecall c

pub returns-in-Ecall-clause-exact : goal.returns-in-Ecall-clause-exact
returns-in-Ecall-clause-exact c = only c.args.mem.now c.args.regs.now turn_end.Ecall c.step.new.mem c.step.new.regs (ecall c)

-- the turn that ends at a trap
trap : (c : goal.In-Trap) → Turns c.args.mem.now c.args.regs.now (turn_end.Trap c.in-Trap.signal) c.step.new.mem c.step.new.regs
trap c =
    let before : Does (4096 - (c.loop.left - c.run-kept.result.done)) (fresh c.args.mem.now c.args.regs.now) (machine c.run-kept.new.regs c.run-kept.new.mem c.run-kept.new.held) =
    does-within c.loop.left c.run-kept.result.done (fresh c.args.mem.now c.args.regs.now) (machine c.loop.regs c.loop.mem c.loop.held)
    (machine c.run-kept.new.regs c.run-kept.new.mem c.run-kept.new.held) c.loop.invariant.done c.run-kept.ensures.done c.run-kept.ensures.few (omega (arith, c.loop.invariant.few)) in (
      c.step.new.held,
      stopped (4096 - (c.loop.left - c.run-kept.result.done)) (fresh c.args.mem.now c.args.regs.now) (machine c.run-kept.new.regs c.run-kept.new.mem c.run-kept.new.held)
          (machine c.step.new.regs c.step.new.mem c.step.new.held) (turn_end.Trap c.in-Trap.signal) (outcome.Trap c.in-Trap.signal) refl before (omega (arith, c.if-left-eq0.false, c.loop.invariant.few)) c.in-Trap.ensures.exact,
    )

pub returns-in-Trap-clause-turns : goal.returns-in-Trap-clause-turns
returns-in-Trap-clause-turns c = trap c

pub returns-in-Trap-clause-exact : goal.returns-in-Trap-clause-exact
returns-in-Trap-clause-exact c = only c.args.mem.now c.args.regs.now (turn_end.Trap c.in-Trap.signal) c.step.new.mem c.step.new.regs (trap c)

pub loop-preserved : goal.loop-preserved
loop-preserved c =
    let before : Does (4096 - (c.loop.left - c.run-kept.result.done)) (fresh c.args.mem.now c.args.regs.now) (machine c.run-kept.new.regs c.run-kept.new.mem c.run-kept.new.held) =
    does-within c.loop.left c.run-kept.result.done (fresh c.args.mem.now c.args.regs.now) (machine c.loop.regs c.loop.mem c.loop.held)
    (machine c.run-kept.new.regs c.run-kept.new.mem c.run-kept.new.held) c.loop.invariant.done c.run-kept.ensures.done c.run-kept.ensures.few (omega (arith, c.loop.invariant.few)) in
    record {
      done = does-one-within (c.loop.left - c.run-kept.result.done) (fresh c.args.mem.now c.args.regs.now) (machine c.run-kept.new.regs c.run-kept.new.mem c.run-kept.new.held)
          (machine c.step.new.regs c.step.new.mem c.step.new.held) before c.in-Done.ensures.exact (omega (arith, c.if-left-eq0.false)) (omega (arith, c.loop.invariant.few));
      few = omega (arith, c.loop.invariant.few, c.if-left-eq0.false, c.run-kept.ensures.few);
      slots = c.step.ensures.slots;
    }

-- ---- the end of all rounds

pub returns-clause-exact : goal.returns-clause-exact
returns-clause-exact c =
    let all : 4096 - c.loop.left ≡ 4096 = omega (arith, c.loop.invariant.few, c.loop-test.false) in
    only c.args.mem.now c.args.regs.now turn_end.Quantum c.loop.mem c.loop.regs
    (c.loop.held, finished (4096 - c.loop.left) (fresh c.args.mem.now c.args.regs.now) (machine c.loop.regs c.loop.mem c.loop.held) all c.loop.invariant.done)
