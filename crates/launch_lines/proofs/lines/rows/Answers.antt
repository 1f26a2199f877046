use Rattle.std.proofs.Common.{arith, ap, length, List, ℕ}
use Rattle.launch_lines.proofs.lines.rows.Goals as goal

pub returns-in_default-behind-clause-count : goal.returns-in_default-behind-clause-count
returns-in_default-behind-clause-count c =
    let last = rw c.in_default-behind.is at c.next_line.ensures.line in
    omega (arith, c.loop-row.invariant.numbered, c.loop-row.invariant.fits, ap (length {A = List ℕ}) last)
