use Rattle.std.proofs.Common.{◌≡◌, drop}
use Rattle.call_codec.specs.Output.{scattered}
use Rattle.call_codec.proofs.output.scatter.Given as goal

-- writing what is left into the ranges that are left comes to writing all of it into all of them
abbrev pub invariant-loop-range : goal.invariant-loop-range
invariant-loop-range l = scattered l.memory (drop l.range-index l.ranges) l.rest ≡ scattered l.fn.memory l.ranges l.bytes
