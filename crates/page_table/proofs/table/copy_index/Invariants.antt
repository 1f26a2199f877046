use Rattle.page_table.proofs.Indexes.{IsCopied, IsThere, behind_next}
use Rattle.page_table.proofs.table.copy_index.Given as goal

abbrev pub invariant-loop-next : goal.invariant-loop-next
invariant-loop-next l = record {
  copied : IsCopied l.index l.made l.next;
  there : IsThere l.index l.next;
}

abbrev pub decreases-loop-next : goal.decreases-loop-next
decreases-loop-next l = behind_next l.next
