use Rattle.std.proofs.Common.{sym, subst}
use Rattle.kernel_cell.specs.Recorded.{IsRecorded}
use Rattle.kernel_cell.proofs.RecordedSteps.{deadlines_there}
use Rattle.kernel_cell.proofs.locked.Locked.next_ready.Goals as goal

pub returns-clause-recorded : goal.returns-clause-recorded
returns-clause-recorded g c =
    let it = c.args.self.now in
    subst (λ k. IsRecorded g.J.Naming.launch g.J.Naming.keeps_all it.keeper.log k it.constants it.kept) (sym c.next_ready.ensures.same) c.requires.recorded

pub next_ready-requires : goal.next_ready-requires
next_ready-requires g c = record { deadlines = deadlines_there c.requires.recorded }
