use Rattle.std.proofs.Common.{ap}
use Rattle.kernel_cell.proofs.Begins.{first_seen}
use Rattle.kernel_cell.proofs.cell.Begun.named.Goals as goal

pub hand_out-pass-requires-clause-seen : goal.hand_out-pass-requires-clause-seen
hand_out-pass-requires-clause-seen g c = first_seen g.J.Naming.launch c.new-keeper.result.log (ap (λ k. k.log) c.new-keeper.ensures)
