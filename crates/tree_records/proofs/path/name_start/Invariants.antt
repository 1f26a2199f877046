-- no slash stands from the place on
use Rattle.std.proofs.Common.{◌≤◌, drop, length}
use Rattle.tree_records.specs.Paths.{HasNoSlash}
use Rattle.tree_records.proofs.path.name_start.Given as goal

abbrev pub invariant-loop-start : goal.invariant-loop-start
invariant-loop-start l = (l.start ≤ length l.bytes) × HasNoSlash (drop l.start l.bytes)

abbrev pub decreases-loop-start : goal.decreases-loop-start
decreases-loop-start l = l.start
