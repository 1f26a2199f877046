use Rattle.std.proofs.Common.{ℕ, ◌/◌, subst}
use Rattle.guest_memory.specs.Mapping.{NoneExecutable}
use Rattle.call_codec.proofs.KeptCode.{answer_keeps_code, Succeeds}
use Rattle.call_codec.proofs.code.may_change_code.Goals as goal

pub returns-then-eq : goal.returns-then-eq
returns-then-eq c = λ no.
    let m = c.args.memory.now in
    answer_keeps_code m c.args.regs.now c.args.call.now c.args.answer.now
    (λ done. subst (λ (x : ℕ × ℕ). NoneExecutable m (x.0 / 4096) x.1) c.changed_pages-at.ensures.is (c.has_executable.ensures.0 no))

pub returns-in-Parked : goal.returns-in-Parked
returns-in-Parked c = λ no.
    answer_keeps_code c.args.memory.now c.args.regs.now c.args.call.now c.args.answer.now (λ done. absurd (subst Succeeds c.in-Parked.is done))
