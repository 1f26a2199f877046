use Rattle.std.proofs.Common.{◌-◌, ◌^◌}
use Rattle.file_tree.proofs.Copies.{CopiesUpTo, passed}
use Rattle.file_tree.proofs.copying.copy_numbers.Given as goal

-- the numbers up to the last are as in the other map
abbrev pub invariant-loop-number : goal.invariant-loop-number
invariant-loop-number l = CopiesUpTo l.last l.numbers l.made

abbrev pub decreases-loop-number : goal.decreases-loop-number
decreases-loop-number l = 2 ^ 64 - passed l.last
