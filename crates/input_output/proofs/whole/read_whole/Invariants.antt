use Rattle.std.proofs.Common.{◌≡◌, ◌≤◌, ℕ, List, length, ◌-◌}
use Rattle.input_output.proofs.InputParts.{IsReadSoFar}
use Rattle.input_output.proofs.whole.read_whole.Given as goal

abbrev pub invariant-loop-bytes : goal.invariant-loop-bytes
invariant-loop-bytes g l =
    ((n : List ℕ) → g.S.Source.content l.source n ≡ g.S.Source.content l.fn.source n)
    × ((n : List ℕ) → g.S.Source.may_read l.fn.source n → g.S.Source.may_read l.source n)
    × (g.S.Source.faults l.fn.source ≤ g.S.Source.faults l.source)
    × (length l.bytes ≤ 268435456)
    × IsReadSoFar (g.S.Source.content l.fn.source l.name) l.bytes

abbrev pub decreases-loop-bytes : goal.decreases-loop-bytes
decreases-loop-bytes g l = 268435456 - length l.bytes
