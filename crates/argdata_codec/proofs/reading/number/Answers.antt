-- so few bytes are less than 2 ^ 128
use Rattle.std.proofs.Common.{arith}
use Rattle.argdata_codec.proofs.Numbers.{power_small}
use Rattle.argdata_codec.proofs.reading.number.Goals as goal

pub overflow_mul-number : goal.overflow_mul-number
overflow_mul-number c = omega (arith, c.loop-byte.invariant.1, c.loop-byte.invariant.2, power_small c.loop-byte.byte-index 8 (omega (arith, c.requires, c.loop-byte-test.true)))

pub overflow_add-number : goal.overflow_add-number
overflow_add-number c = omega (arith, c.loop-byte.invariant.1, c.loop-byte.invariant.2, power_small c.loop-byte.byte-index 8 (omega (arith, c.requires, c.loop-byte-test.true)))

pub overflow_mul-top : goal.overflow_mul-top
overflow_mul-top c = omega (arith, c.loop-byte.invariant.1, c.loop-byte.invariant.2, power_small c.loop-byte.byte-index 8 (omega (arith, c.requires, c.loop-byte-test.true)))

pub returns-clause-small : goal.returns-clause-small
returns-clause-small c = omega (arith, c.loop-byte.invariant.1, power_small c.loop-byte.byte-index 9 (omega (arith, c.requires, c.loop-byte.auto.byte-index-end)))
