-- The descriptors so far and those of what is left are all. What is called goes by the depth of what it is given.
use Rattle.std.proofs.Common.{◌≡◌, ◌+◌, ◌*◌, map, drop}
use Rattle.launch_values.specs.Shape.{of_list, of_pairs, depth_of, depth_of_content, depth_of_items, depth_of_pairs}
use Rattle.launch_values.specs.Views.{shape_of, pair_of, content_of_value}
use Rattle.launch_plan.specs.Tagged.{grants_behind, tagged_in_items, tagged_in_pairs}
use Rattle.launch_plan.proofs.tagged_nodes.+tagged.Given as goal

abbrev pub invariant-push_of_items-loop-item : goal.invariant-push_of_items-loop-item
invariant-push_of_items-loop-item l =
    grants_behind l.tree l.grants (tagged_in_items (of_list (map shape_of (drop l.item-index l.items)))) ≡ grants_behind l.fn.tree l.fn.grants (tagged_in_items (of_list (map shape_of l.items)))

abbrev pub invariant-push_of_pairs-loop-key : goal.invariant-push_of_pairs-loop-key
invariant-push_of_pairs-loop-key l =
    grants_behind l.tree l.grants (tagged_in_pairs (of_pairs (map pair_of (drop l.key-index l.pairs)))) ≡ grants_behind l.fn.tree l.fn.grants (tagged_in_pairs (of_pairs (map pair_of l.pairs)))

abbrev pub decreases-push_grants : goal.decreases-push_grants
decreases-push_grants l = 4 * depth_of (shape_of l.node.now) + 3

abbrev pub decreases-push_inside : goal.decreases-push_inside
decreases-push_inside l = 4 * depth_of_content (content_of_value l.value.now) + 2

abbrev pub decreases-push_of_items : goal.decreases-push_of_items
decreases-push_of_items l = 4 * depth_of_items (of_list (map shape_of l.items.now)) + 4

abbrev pub decreases-push_of_pairs : goal.decreases-push_of_pairs
decreases-push_of_pairs l = 4 * depth_of_pairs (of_pairs (map pair_of l.pairs.now)) + 4
