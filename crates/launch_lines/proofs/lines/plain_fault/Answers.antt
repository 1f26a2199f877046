use Rattle.std.proofs.Common.{arith, ap, sym, ◌∙◌, length, List, ℕ}
use Rattle.std.proofs.Math.Facts.{Fits-of_lt}
use Rattle.launch_lines.proofs.FirstFaults.{answered, goes_on}
use Rattle.launch_lines.proofs.Pieces.{some_line}
use Rattle.launch_lines.specs.Lines.{plain_fault}
use Rattle.launch_lines.proofs.lines.plain_fault.Goals as goal

pub returns-in-Some : goal.returns-in-Some
unfolding plain_fault
returns-in-Some c = answered _ _ _ _ _ c.in-Some.fault c.loop-fault.invariant.same c.next_line.ensures.line c.in-Some.ensures

pub overflow_add-number : goal.overflow_add-number
overflow_add-number c =
    let more = rw c.in-Some-behind.is at c.next_line.ensures.line in
    Fits-of_lt (omega (arith, c.requires, c.loop-fault.invariant.numbered, ap (length {A = List ℕ}) more, some_line c.in-Some-behind.after.now))

pub loop-fault-preserved : goal.loop-fault-preserved
loop-fault-preserved c =
    let more = rw c.in-Some-behind.is at c.next_line.ensures.line in
    record {
      same = goes_on _ _ _ _ _ c.loop-fault.invariant.same more (sym c.in_default.is ∙ c.plain_fault_in.ensures);
      numbered = omega (arith, c.loop-fault.invariant.numbered, ap (length {A = List ℕ}) more);
    }
