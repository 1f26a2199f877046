use Rattle.std.proofs.Common.{◌≡◌, drop}
use Rattle.fd_table.specs.Table.{first_absent}
use Rattle.fd_table.proofs.table.FdTable.first_absent.Given as goal

-- the first that is absent is among those that are left
abbrev pub invariant-loop-fd : goal.invariant-loop-fd
invariant-loop-fd l = first_absent l.self (drop l.fd-index l.list) ≡ first_absent l.self l.list
