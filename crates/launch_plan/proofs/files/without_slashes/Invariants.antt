-- Slashes were passed over.
use Rattle.std.proofs.Common.{◌≡◌, ◌≤◌, ◌-◌, length, drop}
use Rattle.launch_plan.specs.Files.{without_slashes}
use Rattle.launch_plan.proofs.files.without_slashes.Given as goal

abbrev pub invariant-loop-from : goal.invariant-loop-from
invariant-loop-from l = record {
  within : l.from ≤ length l.path;
  same : without_slashes (drop l.from l.path) ≡ without_slashes l.path;
}

abbrev pub decreases-loop-from : goal.decreases-loop-from
decreases-loop-from l = length l.path - l.from
