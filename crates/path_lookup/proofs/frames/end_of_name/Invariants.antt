use Rattle.std.proofs.Common.{◌≡◌, ◌≤◌, ◌-◌, [], drop, length}
use Rattle.std.specs.List.{slice_range}
use Rattle.path_lookup.specs.Split.{names_from}
use Rattle.path_lookup.proofs.frames.end_of_name.Given as goal

abbrev pub invariant-loop-end : goal.invariant-loop-end
invariant-loop-end l = record {
  after : l.from ≤ l.end;
  within : l.end ≤ length l.text;
  same : names_from l.from [] (drop l.from l.text) ≡ names_from l.from (slice_range l.text l.from l.end) (drop l.end l.text);
}

abbrev pub decreases-loop-end : goal.decreases-loop-end
decreases-loop-end l = length l.text - l.end
