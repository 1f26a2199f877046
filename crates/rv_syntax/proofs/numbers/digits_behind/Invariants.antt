use Rattle.std.proofs.Common.{◌≡◌, drop}
use Rattle.rv_syntax.specs.Numbers.{digits_behind}
use Rattle.rv_syntax.proofs.numbers.digits_behind.Given as goal

-- the number is that of the digits that are left, behind the number so far
abbrev pub invariant-loop-b : goal.invariant-loop-b
invariant-loop-b l = digits_behind l.base l.n (drop l.b-index l.digits) ≡ digits_behind l.base l.fn.n l.digits
