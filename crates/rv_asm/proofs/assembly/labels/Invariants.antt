use Rattle.std.proofs.Common.{◌≡◌, drop, map}
use Rattle.rv_asm.specs.Lines.{labels_of, labels_after}
use Rattle.rv_syntax.specs.Names.{rows}
use Rattle.rv_asm.proofs.assembly.labels.Given as goal

-- the labels are those of the lines that are left, after those so far
abbrev pub invariant-loop-line : goal.invariant-loop-line
invariant-loop-line l =
    labels_after (rows l.place.labels.items) l.place.address (map (λ line. line.now) (drop l.line-index l.lines)) ≡ labels_of (map (λ line. line.now) l.lines)
