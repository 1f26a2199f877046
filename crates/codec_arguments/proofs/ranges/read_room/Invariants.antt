use Rattle.std.proofs.Common.{◌≡◌, ◌≤◌, ◌-◌}
use Rattle.codec_arguments.specs.Ranges.{ranges_at, room_in}
use Rattle.codec_arguments.specs.declared.ranges.TheConstants.{MOST_TRANSFERRED}
use Rattle.codec_arguments.proofs.RoomParts.{after_count, room_after}
use Rattle.codec_arguments.proofs.ranges.read_room.Given as goal

-- the bytes so far, and those of the ranges that are left, are all
abbrev pub invariant-loop : goal.invariant-loop
invariant-loop l = record {
  all : after_count (MOST_TRANSFERRED - l.room) (room_after l.memory l.room (ranges_at l.memory l.next (l.count - l.counter))) ≡ room_in l.memory l.at l.count;
  room : l.room ≤ MOST_TRANSFERRED;
}
