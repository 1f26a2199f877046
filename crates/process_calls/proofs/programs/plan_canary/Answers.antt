use Rattle.std.proofs.Common.{sym, ap, subst, ◌∙◌}
use Rattle.std.specs.Prelude.{IsTrue}
use Rattle.kernel_model.specs.Outcome.{replies}
use Rattle.kernel_model.proofs.Tests.{not_true}
use Rattle.process_calls.proofs.ExecCalls.{exec_faulty}
use Rattle.process_calls.proofs.programs.plan_canary.Goals as goal

pub returns-in-Ok-false-clause-refused : goal.returns-in-Ok-false-clause-refused
returns-in-Ok-false-clause-refused c = λ t table.
    exec_faulty c.args.constants.now.key c.args.pid t table c.args.own.now c.args.elf.now
    (λ none. not_true (subst IsTrue c.in-Ok-false.field-0-test (c.in-Ok-false.ensures.sound.1 none)))
    ∙ ap replies (sym c.refused-in-Ok-false.ensures)
