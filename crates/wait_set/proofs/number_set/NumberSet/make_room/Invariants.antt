use Rattle.std.proofs.Common.{◌≡◌, ◌≤◌, ◌-◌}
use Rattle.std.specs.List.{concat}
use Rattle.wait_set.specs.Numbers.{IsPacked, room_of}
use Rattle.wait_set.proofs.number_set.NumberSet.make_room.Given as goal

abbrev pub invariant-loop-self : goal.invariant-loop-self
invariant-loop-self l =
    record {
      same : concat l.self-inside.blocks.used ≡ l.fn.self.list;
      packed : IsPacked l.self-inside.blocks.used;
      more : l.fn.self.room ≤ room_of l.self-inside.blocks.total;
    }

abbrev pub decreases-loop-self : goal.decreases-loop-self
decreases-loop-self l = l.wanted - l.self-inside.blocks.total
