use Rattle.std.proofs.Common.{ℕ, ◌-◌, ◌*◌, ◌≤◌}
use Rattle.guest_memory.specs.Mapping.{IsGap}
use Rattle.guest_memory.proofs.memory.GuestMemory.find_gap.Given as goal

abbrev pub invariant-loop-first : goal.invariant-loop-first
invariant-loop-first l = record {
  low : 0x2000000 ≤ l.first;
  high : l.first ≤ 0x3e00000;
  none_below : (b : ℕ) → IsGap l.self l.pages b → 4096 * l.first ≤ b;
}

abbrev pub decreases-loop-first : goal.decreases-loop-first
decreases-loop-first l = 0x3e00000 - l.first
