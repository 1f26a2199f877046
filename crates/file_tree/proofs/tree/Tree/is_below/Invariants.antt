use Rattle.std.proofs.Common.{◌≡◌, true}
use Rattle.maps.specs.Closure.{member}
use Rattle.tree_model.specs.Tree.{below, is_directory}
use Rattle.tree_model.specs.Climbing.{depth}
use Rattle.file_tree.proofs.tree.Tree.is_below.Given as goal

-- climbing has not changed whether what it is at is below the node
abbrev pub invariant-loop-at : goal.invariant-loop-at
invariant-loop-at l = (is_directory l.self l.at ≡ true) × (member l.at (below l.self l.fn.id) ≡ member l.fn.dir (below l.self l.fn.id))

-- each climb leaves fewer nodes that it is below
abbrev pub decreases-loop-at : goal.decreases-loop-at
decreases-loop-at l = depth l.self l.at
