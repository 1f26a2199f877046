use Rattle.std.proofs.Common.{◌≡◌, ◌+◌, ◌≤◌, length}
use Rattle.maps.specs.Placed.{count_below, IsOrdered}
use Rattle.maps.proofs.name_tree.NameTree.below.Given as goal

abbrev pub invariant-loop-tree : goal.invariant-loop-tree
invariant-loop-tree g l = IsOrdered l.tree × (l.count + count_below l.name l.tree ≡ count_below l.name l.self) × (l.count + length l.tree ≤ length l.self)

abbrev pub decreases-loop-tree : goal.decreases-loop-tree
decreases-loop-tree g l = length l.tree
