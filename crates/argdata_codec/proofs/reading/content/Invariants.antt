-- what stands before the zero byte is what was passed, and what is before it in the rest
use Rattle.std.proofs.Common.{◌≡◌, ◌++◌, take, drop, option_map}
use Rattle.argdata_codec.specs.Reading.{before_zero}
use Rattle.argdata_codec.proofs.reading.content.Given as goal

abbrev pub invariant-loop-i : goal.invariant-loop-i
invariant-loop-i l = option_map (λ front. take l.i l.body ++ front) (before_zero (drop l.i l.body)) ≡ before_zero l.body
