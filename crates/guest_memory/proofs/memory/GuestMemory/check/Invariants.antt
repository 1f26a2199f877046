use Rattle.std.proofs.Common.{◌-◌, ◌≤◌, IsOk}
use Rattle.guest_memory.specs.Bytes.{bytes_from}
use Rattle.guest_memory.proofs.memory.GuestMemory.check.Given as goal

abbrev pub invariant-loop-done : goal.invariant-loop-done
invariant-loop-done l = record { within : l.done ≤ l.count; had : IsOk (bytes_from l.access l.self l.at l.done) }

abbrev pub decreases-loop-done : goal.decreases-loop-done
decreases-loop-done l = l.count - l.done
