use Rattle.std.proofs.Common.{◌≡◌, Option, Some, sym, ap, ◌∙◌}
use Rattle.std.specs.Prelude.{option_copied}
use Rattle.std.specs.FinMap.{get}
use Rattle.kernel_model.specs.State.{State, Table}
use Rattle.kernel_parts.specs.Waiting.{goes_on}
use Rattle.kernel_invariant.proofs.Waiters.{looked_at, ready_by}
use Rattle.kernel_core.proofs.kernel.Kernel.is_ready.Goals as goal

pub returns-in-Some-Waits : goal.returns-in-Some-Waits
returns-in-Some-Waits c =
    let S = c.args.self.now in
    let constants = c.args.constants.now in
    let table : option_copied c.get-table.result ≡ get S.tables c.args.pid =
    c.get-table.ensures.value ∙ ap (get c.self.inside.tables) (c.from.ensures ∙ c.pid.view_is) ∙ ap (λ (X : State). get X.tables c.args.pid) c.self.view_is in
    c.goes_on.ensures
    ∙ looked_at c.around.ensures.constants c.around.ensures.opens c.around.ensures.channels c.around.ensures.statuses c.around.ensures.moment (option_copied c.get-table.result)
    c.in-Some-Waits.call c.in-Some-Waits.since c.in-Some-Waits.until c.in-Some-Waits.stage
    ∙ ap (λ (t : Option Table). goes_on constants S.opens S.chans S.statuses S.clock t c.in-Some-Waits.call c.in-Some-Waits.since c.in-Some-Waits.until c.in-Some-Waits.stage) table
    ∙ ready_by constants S c.args.pid c.args.tid _ _ _ _ (sym c.in-Some-Waits.ensures ∙ ap Some c.in-Some-Waits.field-0-is)
