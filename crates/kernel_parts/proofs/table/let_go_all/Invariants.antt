use Rattle.std.proofs.Common.{◌≡◌, ℕ, ◌+◌, ◌≤◌}
use Rattle.std.specs.FinMap as map
use Rattle.maps.specs.Maps.{number}
use Rattle.kernel_model.specs.Release.{count_in}
use Rattle.kernel_parts.proofs.table.let_go_all.Given as goal

-- what is left in the table is still counted, and nothing else was let go
abbrev pub invariant-loop-descriptor : goal.invariant-loop-descriptor
invariant-loop-descriptor l = record {
  kinds : l.objects.kinds ≡ l.fn.objects.kinds;
  covered : (o : ℕ) → count_in o l.table ≤ number (map.get l.objects.counts o);
  counts : (o : ℕ) → number (map.get l.objects.counts o) + count_in o l.fn.table ≡ number (map.get l.fn.objects.counts o) + count_in o l.table;
}

abbrev pub decreases-loop-descriptor : goal.decreases-loop-descriptor
decreases-loop-descriptor l = map.len l.table
