use Rattle.guest_memory.proofs.EachWritten.{written_each}
use Rattle.guest_memory.proofs.laws.bytes_are_written.Goals as goal

pub returns : goal.returns
returns c = written_each
