use Rattle.std.proofs.Common.{◌↔◌, IfSome, IsNone, subst}
use Rattle.fd_table.specs.Table.{Table, IsFull, IsLowestFree}
use Rattle.fd_table.proofs.Marked.{lowest_free, full_exactly}
use Rattle.fd_table.proofs.table.FdTable.lowest.Goals as goal

pub returns-clause-free : goal.returns-clause-free
returns-clause-free c =
    let lowest = c.lowest_unmarked.ensures in
    subst (λ (m : Table). IfSome c.lowest_unmarked.result (λ n. IsLowestFree m n)) c.self.view_is
    (lowest_free c.self.inside.taken c.self.inside.slots c.self.invariant.marked c.lowest_unmarked.result lowest.below lowest.unmarked lowest.lower)

pub returns-clause-full : goal.returns-clause-full
returns-clause-full c =
    let lowest = c.lowest_unmarked.ensures in
    subst (λ (m : Table). IsNone c.lowest_unmarked.result ↔ IsFull m) c.self.view_is
    (full_exactly c.self.inside.taken c.self.inside.slots c.self.invariant.marked c.self.invariant.table c.lowest_unmarked.result
    lowest.below lowest.unmarked lowest.lower lowest.full)
