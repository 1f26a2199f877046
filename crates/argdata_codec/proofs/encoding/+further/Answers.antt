-- a number of 128 bits has few bytes
use Rattle.std.proofs.Common.{◌/◌, arith}
use Rattle.argdata_codec.proofs.Groups.{further_least}
use Rattle.argdata_codec.proofs.encoding.+further.Goals as goal

pub overflow_add-result : goal.overflow_add-result
overflow_add-result t c = omega (arith, c.further.ensures, further_least 15 (c.args.steps / 256) (omega arith))
