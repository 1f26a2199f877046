use Rattle.guest_memory.proofs.Writes.{limits_empty}
use Rattle.guest_memory.proofs.memory.GuestMemory.new.Goals as goal

pub invariant_of-result : goal.invariant_of-result
invariant_of-result c = rw c.new.ensures limits_empty
