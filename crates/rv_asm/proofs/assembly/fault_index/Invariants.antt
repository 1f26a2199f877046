use Rattle.rv_syntax.specs.Names.{rows}
use Rattle.rv_asm.proofs.Assembling.{IsLeft}
use Rattle.rv_asm.proofs.assembly.fault_index.Given as goal

abbrev pub invariant-loop-i : goal.invariant-loop-i
invariant-loop-i l = IsLeft (rows l.labels) (rows l.place.labels.items) l.place.address l.lines l.i
