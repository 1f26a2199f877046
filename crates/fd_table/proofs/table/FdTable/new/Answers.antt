use Rattle.std.proofs.Common.{subst, sym}
use Rattle.fd_table.specs.Marks.{IsKept}
use Rattle.fd_table.specs.Sizes.{below-empty}
use Rattle.fd_table.specs.Table.{Table}
use Rattle.fd_table.proofs.Marked.{none_marked}
use Rattle.fd_table.proofs.table.FdTable.new.Goals as goal

pub invariant_of-result : goal.invariant_of-result
invariant_of-result c = subst (λ (x : Table). IsKept x _) (sym c.new.ensures) (record { table = below-empty _ _; marked = none_marked })
