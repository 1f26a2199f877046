-- The values so far and those of what is left are all, and so are the numbers. What is called goes by the depth of what
-- it is given.
use Rattle.std.proofs.Common.{◌≡◌, ◌+◌, ◌*◌, map, length}
use Rattle.argdata_codec.specs.Views.{shape_of as argument_of, pair_of as argument_pair_of}
use Rattle.launch_values.specs.Shape.{of_list, of_pairs, depth_of, depth_of_content, depth_of_items, depth_of_pairs}
use Rattle.launch_values.specs.Views.{shape_of, pair_of, content_of_value}
use Rattle.launch_plan.proofs.Grants.{left_of, pairs_left_of}
use Rattle.launch_plan.proofs.ArgumentLists.{items_from, pairs_from, before_items, before_pairs}
use Rattle.launch_plan.proofs.arguments.+arguments.Given as goal

abbrev pub invariant-content_of_items-loop-item : goal.invariant-content_of_items-loop-item
invariant-content_of_items-loop-item l =
    (before_items (map argument_of l.values.items) (items_from l.next l.items l.item-index) ≡ items_from l.fn.next l.items 0)
    × (l.next + length (left_of l.items l.item-index) ≡ l.fn.next + length (left_of l.items 0))

abbrev pub invariant-content_of_pairs-loop-key : goal.invariant-content_of_pairs-loop-key
invariant-content_of_pairs-loop-key l =
    (before_pairs (map argument_pair_of l.values.items) (pairs_from l.next l.pairs l.key-index) ≡ pairs_from l.fn.next l.pairs 0)
    × (l.next + length (pairs_left_of l.pairs l.key-index) ≡ l.fn.next + length (pairs_left_of l.pairs 0))

abbrev pub decreases-argument : goal.decreases-argument
decreases-argument l = 4 * depth_of (shape_of l.node.now) + 3

abbrev pub decreases-content : goal.decreases-content
decreases-content l = 4 * depth_of_content (content_of_value l.value.now) + 2

abbrev pub decreases-content_of_items : goal.decreases-content_of_items
decreases-content_of_items l = 4 * depth_of_items (of_list (map shape_of l.items.now)) + 4

abbrev pub decreases-content_of_pairs : goal.decreases-content_of_pairs
decreases-content_of_pairs l = 4 * depth_of_pairs (of_pairs (map pair_of l.pairs.now)) + 4
