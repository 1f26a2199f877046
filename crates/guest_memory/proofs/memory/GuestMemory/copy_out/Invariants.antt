use Rattle.std.proofs.Common.{◌≡◌, ◌-◌, ◌≤◌, length, take, Ok}
use Rattle.guest_memory.specs.Bytes.{bytes_from}
use Rattle.guest_memory.proofs.memory.GuestMemory.copy_out.Given as goal

abbrev pub invariant-loop-done : goal.invariant-loop-done
invariant-loop-done l = record { within : l.done ≤ length l.out; had : bytes_from l.access l.self l.at l.done ≡ Ok (take l.done l.out) }

abbrev pub decreases-loop-done : goal.decreases-loop-done
decreases-loop-done l = length l.initial.out - l.done
