-- the bytes so far, and those of the rest of the text, are all
use Rattle.std.proofs.Common.{◌≡◌, length}
use Rattle.tree_records.specs.Reading.{unescaped}
use Rattle.tree_records.proofs.Unescaping.{with_front}
use Rattle.tree_records.proofs.escapes.unescape.Given as goal

abbrev pub invariant-loop-rest : goal.invariant-loop-rest
invariant-loop-rest l = with_front l.bytes.items (unescaped l.rest) ≡ unescaped l.text

abbrev pub decreases-loop-rest : goal.decreases-loop-rest
decreases-loop-rest l = length l.rest
