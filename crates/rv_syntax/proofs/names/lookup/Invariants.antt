use Rattle.std.proofs.Common.{◌≡◌, drop}
use Rattle.rv_syntax.specs.Names.{rows, lookup}
use Rattle.rv_syntax.proofs.names.lookup.Given as goal

-- the name's meaning is that in the rows that are left
abbrev pub invariant-loop-word : goal.invariant-loop-word
invariant-loop-word g l = lookup (rows (drop l.word-index l.table)) l.name ≡ lookup (rows l.table) l.name
