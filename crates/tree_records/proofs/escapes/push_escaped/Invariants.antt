-- what is written so far
use Rattle.std.proofs.Common.{◌≡◌, ◌++◌, take}
use Rattle.tree_records.specs.Escapes.{escaped}
use Rattle.tree_records.proofs.escapes.push_escaped.Given as goal

abbrev pub invariant-loop-byte : goal.invariant-loop-byte
invariant-loop-byte l = l.out.items ≡ l.initial.out.items ++ escaped (take l.byte-index l.bytes)
