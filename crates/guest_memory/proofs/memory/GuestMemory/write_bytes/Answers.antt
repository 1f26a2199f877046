use Rattle.guest_memory.proofs.Writes.{unwritable_kept}
use Rattle.guest_memory.proofs.memory.GuestMemory.write_bytes.Goals as goal

pub returns-clause-unwritable : goal.returns-clause-unwritable
returns-clause-unwritable c = rw c.copy_in.ensures (unwritable_kept c.args.bytes.now c.args.self.now c.args.at (c.in_ok-check.ensures.ok))
