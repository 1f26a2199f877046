use Rattle.guest_memory.proofs.EachByte.{bytes_each}
use Rattle.guest_memory.proofs.laws.bytes_are_each.Goals as goal

pub returns : goal.returns
returns c = bytes_each
