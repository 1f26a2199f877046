use Rattle.rv_syntax.specs.Names.{rows}
use Rattle.rv_asm.proofs.Assembling.{Reached}
use Rattle.rv_asm.proofs.assembly.emit.Given as goal

abbrev pub invariant-loop-i : goal.invariant-loop-i
invariant-loop-i l = Reached (rows l.labels) (rows l.place.labels.items) l.place.address l.lines l.i l.out.items
