-- What stands in a list is no deeper than the list.
use Rattle.std.proofs.Common.{ℕ, zero, suc, ◌<◌, ◌≤◌, List, [], ◌∷◌, length, get_or, map, max, arith}
use Rattle.launch_values.specs.declared.node.Node.{Node}
use Rattle.launch_values.specs.Shape.{of_list, of_pairs, depth_of, depth_of_items, depth_of_pairs}
use Rattle.launch_values.specs.Views.{shape_of, pair_of}

pub item_depth : (xs : List Node) (i : ℕ) (d : Node) → i < length xs → depth_of (shape_of (get_or xs i d)) ≤ depth_of_items (of_list (map shape_of xs))
item_depth [] i d lt = absurd (omega arith)
item_depth (x ∷ xs) zero d lt = omega arith
item_depth (x ∷ xs) (suc i) d lt = omega (arith, item_depth xs i d (omega arith))

pub pair_depth : (ps : List (Node × Node)) (i : ℕ) (d : Node × Node) → i < length ps
    → max (depth_of (shape_of (get_or ps i d).0)) (depth_of (shape_of (get_or ps i d).1)) ≤ depth_of_pairs (of_pairs (map pair_of ps))
pair_depth [] i d lt = absurd (omega arith)
pair_depth (p ∷ ps) zero d lt = omega arith
pair_depth (p ∷ ps) (suc i) d lt = omega (arith, pair_depth ps i d (omega arith))
