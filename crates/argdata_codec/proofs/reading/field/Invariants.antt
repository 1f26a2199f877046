-- the groups so far, and the rest of the bytes, bring the field
use Rattle.std.proofs.Common.{◌≡◌, ◌≤◌, length}
use Rattle.argdata_codec.specs.Reading.{field_at}
use Rattle.argdata_codec.proofs.reading.field.Given as goal

abbrev pub invariant-loop-rest : goal.invariant-loop-rest
invariant-loop-rest l = (field_at l.groups l.rest ≡ field_at 0 l.bytes) × (l.groups ≤ length l.rest) × (length l.rest ≤ length l.bytes)

abbrev pub decreases-loop-rest : goal.decreases-loop-rest
decreases-loop-rest l = length l.rest
