use Rattle.std.proofs.Common.{◌≡◌, ◌⊎◌, ◌<◌, ◌≤◌, ◌-◌, length, get_or}
use Rattle.wait_set.specs.Numbers.{block}
use Rattle.wait_set.proofs.packing.find.Given as goal

abbrev pub invariant-loop-high : goal.invariant-loop-high
invariant-loop-high l =
    record {
      order : l.low < l.high;
      bound : l.high ≤ length l.blocks.used;
      below : (l.low ≡ 0) ⊎ (get_or (block l.blocks.used l.low) 0 0 ≤ l.number);
      above : (l.high ≡ length l.blocks.used) ⊎ (l.number < get_or (block l.blocks.used l.high) 0 0);
    }

abbrev pub decreases-loop-high : goal.decreases-loop-high
decreases-loop-high l = l.high - l.low
