use Rattle.std.proofs.Common.{◌↔◌, IfSome, IsNone, subst}
use Rattle.std.specs.FinMap.{insert}
use Rattle.abi_base.specs.declared.limits.TheConstants.{MOST_DESCRIPTORS}
use Rattle.fd_table.specs.Marks.{AreMarked}
use Rattle.fd_table.specs.Sizes.{below-insert}
use Rattle.fd_table.specs.Table.{Table, IsFull, IsLowestFree}
use Rattle.fd_table.proofs.Marked.{lowest_free, full_exactly, marked_insert}
use Rattle.fd_table.proofs.table.FdTable.lowest_beside.Goals as goal

pub returns-clause-free : goal.returns-clause-free
returns-clause-free c = λ d.
    let lowest = c.lowest_unmarked.ensures in
    let m : Table = c.self.inside.slots in
    let marked : AreMarked c.mark.new.words (insert m c.args.fd d) =
    marked_insert c.self.inside.taken c.mark.new.words m c.args.fd c.self.invariant.marked c.mark.ensures.others d c.mark.ensures.same in
    subst (λ (t : Table). IfSome c.lowest_unmarked.result (λ n. IsLowestFree (insert t c.args.fd d) n)) c.self.view_is
    (lowest_free c.mark.new.words (insert m c.args.fd d) marked c.lowest_unmarked.result lowest.below lowest.unmarked lowest.lower)

pub returns-clause-full : goal.returns-clause-full
returns-clause-full c = λ d.
    let lowest = c.lowest_unmarked.ensures in
    let m : Table = c.self.inside.slots in
    let marked : AreMarked c.mark.new.words (insert m c.args.fd d) =
    marked_insert c.self.inside.taken c.mark.new.words m c.args.fd c.self.invariant.marked c.mark.ensures.others d c.mark.ensures.same in
    subst (λ (t : Table). IsNone c.lowest_unmarked.result ↔ IsFull (insert t c.args.fd d)) c.self.view_is
    (full_exactly c.mark.new.words (insert m c.args.fd d) marked (below-insert MOST_DESCRIPTORS m c.args.fd d c.self.invariant.table c.requires)
    c.lowest_unmarked.result lowest.below lowest.unmarked lowest.lower lowest.full)
