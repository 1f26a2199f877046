use Rattle.std.proofs.Common.{arith}
use Rattle.fd_table.specs.Sizes.{len_at_most}
use Rattle.fd_table.proofs.table.FdTable.len.Goals as goal

pub returns-clause-most : goal.returns-clause-most
returns-clause-most c = let most = len_at_most _ _ c.self.invariant.table in omega (arith, most, c.len.ensures)
