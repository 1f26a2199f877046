use Rattle.fd_table.proofs.Picks.{PicksBelow}
use Rattle.fd_table.proofs.table.FdTable.picked.Given as goal

-- the places so far have their descriptors
abbrev pub invariant-loop-place : goal.invariant-loop-place
invariant-loop-place l = PicksBelow l.place l.self l.list l.made
