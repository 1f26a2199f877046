use Rattle.std.proofs.Common.{ap, ◌∙◌}
use Rattle.kernel_model.specs.Families.ClockCalls.{time_of}
use Rattle.kernel_model.specs.Reply.{success}
use Rattle.kernel_model.specs.State.{State}
use Rattle.kernel_core.proofs.kernel.Kernel.clock_time.Goals as goal

pub returns : goal.returns
returns c =
    c.success.ensures ∙ ap (λ t. success t 0) (c.time_of.ensures ∙ ap (λ (S : State). time_of c.args.constants.now c.args.clock S.clock) c.self.view_is)
