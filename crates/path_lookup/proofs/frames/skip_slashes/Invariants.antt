use Rattle.std.proofs.Common.{◌≡◌, ◌≤◌, ◌-◌, [], drop, length}
use Rattle.path_lookup.specs.Split.{names_from}
use Rattle.path_lookup.proofs.frames.skip_slashes.Given as goal

abbrev pub invariant-loop-from : goal.invariant-loop-from
invariant-loop-from l = record {
  after : l.at ≤ l.from;
  within : l.from ≤ length l.text;
  same : names_from l.at [] (drop l.at l.text) ≡ names_from l.from [] (drop l.from l.text);
}

abbrev pub decreases-loop-from : goal.decreases-loop-from
decreases-loop-from l = length l.text - l.from
