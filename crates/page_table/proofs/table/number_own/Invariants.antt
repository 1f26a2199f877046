use Rattle.std.proofs.Common.{length}
use Rattle.page_table.proofs.Lowered.{IsLowered}
use Rattle.page_table.proofs.table.number_own.Given as goal

abbrev pub invariant-loop-place : goal.invariant-loop-place
invariant-loop-place l = IsLowered (length l.shared) l.fn.index l.place l.index
