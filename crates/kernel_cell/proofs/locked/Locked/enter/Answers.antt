use Rattle.std.proofs.Common.{sym, subst}
use Rattle.kernel_cell.specs.Acting.{IsActedOn}
use Rattle.kernel_cell.specs.declared.results.Asked.{Asked}
use Rattle.kernel_cell.proofs.locked.Locked.enter.Goals as goal

pub returns-in-Calls-clause-came : goal.returns-in-Calls-clause-came
returns-in-Calls-clause-came g c =
    subst (λ (what : Asked). IsActedOn g.J.Naming.launch c.args.self.now.keeper.log c.args.pid c.args.tid c.args.body.now what c.call.new.body
    c.call.new.self.keeper.log c.call.result) (sym c.in-Calls.is) c.call.ensures.came
