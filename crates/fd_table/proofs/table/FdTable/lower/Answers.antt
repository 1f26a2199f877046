use Rattle.std.proofs.Common.{subst, sym, ap, is_some}
use Rattle.fd_table.specs.Marks.{IsKept}
use Rattle.fd_table.specs.Sizes.{below-insert_again}
use Rattle.fd_table.specs.Table.{Table}
use Rattle.fd_table.proofs.Marked.{marked_again}
use Rattle.fd_table.proofs.table.FdTable.lower.Goals as goal

pub invariant_of-self : goal.invariant_of-self
invariant_of-self c =
    let there = ap is_some (sym c.replace.ensures.old) in
    subst (λ (x : Table). IsKept x c.self.inside.taken) (sym c.replace.ensures.new) (record {
      table = below-insert_again _ _ _ _ c.self.invariant.table there;
      marked = marked_again _ _ _ c.self.invariant.marked _ there;
    })
