-- an integer of 128 bits has at most 16 bytes
use Rattle.std.proofs.Common.{arith}
use Rattle.argdata_codec.proofs.Groups.{further_least}
use Rattle.argdata_codec.proofs.encoding.width.Goals as goal

pub overflow_add-result : goal.overflow_add-result
overflow_add-result c = omega (arith, c.further.ensures, further_least 15 c.steps_from_zero.result (omega (arith, c.steps_from_zero.ensures.small)))

pub returns-else-integer-eq0-clause-small : goal.returns-else-integer-eq0-clause-small
returns-else-integer-eq0-clause-small c = omega (arith, c.further.ensures, further_least 15 c.steps_from_zero.result (omega (arith, c.steps_from_zero.ensures.small)))
