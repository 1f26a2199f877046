-- the fault of what is left is that of all
use Rattle.std.proofs.Common.{◌≡◌, length, ◌+◌}
use Rattle.launch_lines.specs.Lines.{lines_of, plain_faults_from}
use Rattle.launch_lines.proofs.lines.plain_fault.Given as goal

abbrev pub invariant-loop-fault : goal.invariant-loop-fault
invariant-loop-fault l = record {
  same : plain_faults_from l.number (lines_of l.rest) ≡ plain_faults_from 1 (lines_of l.fn.text);
  numbered : l.number + length (lines_of l.rest) ≡ 1 + length (lines_of l.fn.text);
}

abbrev pub decreases-loop-fault : goal.decreases-loop-fault
decreases-loop-fault l = length l.rest
