use Rattle.std.proofs.Common.{ℕ, subst, sym}
use Rattle.abi_base.specs.declared.limits.TheConstants.{MOST_DESCRIPTORS}
use Rattle.fd_table.specs.Marks.{IsKept}
use Rattle.fd_table.specs.Sizes.{below-remove}
use Rattle.fd_table.specs.Table.{Table}
use Rattle.fd_table.proofs.Marked.{marked_remove}
use Rattle.fd_table.proofs.table.FdTable.remove.Goals as goal

pub invariant_of-self : goal.invariant_of-self
invariant_of-self c =
    let m : Table = c.self.inside.slots in
    let fd : ℕ = c.args.fd in
    subst (λ (x : Table). IsKept x c.unmark.new.words) (sym c.remove.ensures.new) (record {
      table = below-remove MOST_DESCRIPTORS m fd c.self.invariant.table;
      marked = marked_remove c.self.inside.taken c.unmark.new.words m fd c.self.invariant.marked c.unmark.ensures.others c.unmark.ensures.same;
    })
