use Rattle.std.proofs.Common.{◌≡◌, ◌++◌, drop}
use Rattle.rv_asm.specs.Lines.{unplaced}
use Rattle.rv_syntax.specs.Names.{rows}
use Rattle.rv_asm.proofs.assembly.append_unplaced.Given as goal

-- the names that are left complete the labels
abbrev pub invariant-loop-name : goal.invariant-loop-name
invariant-loop-name l = rows l.labels.items ++ unplaced (rows (drop l.name-index l.names)) ≡ rows l.initial.labels.items ++ unplaced (rows l.names)
