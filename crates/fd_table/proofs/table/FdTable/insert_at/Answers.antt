use Rattle.std.proofs.Common.{ℕ, subst, sym}
use Rattle.abi_base.specs.declared.limits.TheConstants.{MOST_DESCRIPTORS}
use Rattle.fd_table.specs.Marks.{IsKept}
use Rattle.fd_table.specs.Sizes.{below-insert}
use Rattle.fd_table.specs.Table.{Table}
use Rattle.fd_table.proofs.Marked.{marked_insert}
use Rattle.fd_table.proofs.table.FdTable.insert_at.Goals as goal

pub invariant_of-self-2 : goal.invariant_of-self-2
invariant_of-self-2 c =
    let m : Table = c.self.inside.slots in
    let fd : ℕ = c.args.fd in
    let d = c.args.descriptor in
    subst (λ (x : Table). IsKept x c.mark.new.words) (sym c.in_ok-insert.ensures.ok) (record {
      table = below-insert MOST_DESCRIPTORS m fd d c.self.invariant.table c.requires;
      marked = marked_insert c.self.inside.taken c.mark.new.words m fd c.self.invariant.marked c.mark.ensures.others d c.mark.ensures.same;
    })
