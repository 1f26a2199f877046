use Rattle.std.proofs.Common.{sym, subst}
use Rattle.kernel_cell.specs.Recorded.{IsRecorded}
use Rattle.kernel_cell.proofs.locked.Locked.take_gone.Goals as goal

pub returns-clause-recorded : goal.returns-clause-recorded
returns-clause-recorded g c =
    let it = c.args.self.now in
    subst (λ k. IsRecorded g.J.Naming.launch g.J.Naming.keeps_all it.keeper.log k it.constants it.kept) (sym c.take_gone.ensures) c.requires.recorded
