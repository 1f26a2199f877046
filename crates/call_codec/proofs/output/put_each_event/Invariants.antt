use Rattle.std.proofs.Common.{◌≡◌, ◌-◌, ◌*◌, drop, length, IsOk}
use Rattle.call_codec.specs.Output.{events_bytes}
use Rattle.call_codec.proofs.output.put_each_event.Given as goal
use Rattle.guest_memory.specs.declared.access.Access.TheVariants.{Write}
use Rattle.guest_memory.specs.Bytes.{bytes_from}
use Rattle.guest_memory.specs.Written.{set_bytes}

-- writing the events that are left comes to writing all of them, and their bytes may be written
abbrev pub invariant-loop-event : goal.invariant-loop-event
invariant-loop-event l = record {
  all : set_bytes l.memory l.next (events_bytes (drop l.event-index l.events)) ≡ set_bytes l.fn.memory l.at (events_bytes l.events);
  room : IsOk (bytes_from Write l.memory l.next (32 * (length l.events - l.event-index)));
}
