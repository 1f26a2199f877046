-- What is left and what the rest takes are the room and what all takes. What is called goes by the depth of what it is given.
use Rattle.std.proofs.Common.{◌≡◌, ◌+◌, ◌*◌, ◌≤◌, map, length}
use Rattle.launch_values.specs.Shape.{of_list, of_pairs, depth_of, depth_of_content, depth_of_items, depth_of_pairs}
use Rattle.launch_values.specs.Views.{shape_of, pair_of, content_of_value}
use Rattle.launch_plan.specs.Sizes.{values_in_items, values_in_pairs}
use Rattle.launch_plan.proofs.sizes.+sizes.Given as goal

abbrev pub invariant-room_behind_items-loop-rest : goal.invariant-room_behind_items-loop-rest
invariant-room_behind_items-loop-rest l =
    (l.left + values_in_items (of_list (map shape_of l.items)) ≡ l.fn.room + values_in_items (of_list (map shape_of l.rest)))
    × (depth_of_items (of_list (map shape_of l.rest)) ≤ depth_of_items (of_list (map shape_of l.items)))

abbrev pub invariant-room_behind_pairs-loop-rest : goal.invariant-room_behind_pairs-loop-rest
invariant-room_behind_pairs-loop-rest l =
    (l.left + values_in_pairs (of_pairs (map pair_of l.pairs)) ≡ l.fn.room + values_in_pairs (of_pairs (map pair_of l.rest)))
    × (depth_of_pairs (of_pairs (map pair_of l.rest)) ≤ depth_of_pairs (of_pairs (map pair_of l.pairs)))

abbrev pub decreases-room_behind_items-loop-rest : goal.decreases-room_behind_items-loop-rest
decreases-room_behind_items-loop-rest l = length l.rest

abbrev pub decreases-room_behind_pairs-loop-rest : goal.decreases-room_behind_pairs-loop-rest
decreases-room_behind_pairs-loop-rest l = length l.rest

abbrev pub decreases-room_behind : goal.decreases-room_behind
decreases-room_behind l = 4 * depth_of (shape_of l.node.now) + 3

abbrev pub decreases-room_behind_content : goal.decreases-room_behind_content
decreases-room_behind_content l = 4 * depth_of_content (content_of_value l.value.now) + 2

abbrev pub decreases-room_behind_items : goal.decreases-room_behind_items
decreases-room_behind_items l = 4 * depth_of_items (of_list (map shape_of l.items.now)) + 4

abbrev pub decreases-room_behind_pairs : goal.decreases-room_behind_pairs
decreases-room_behind_pairs l = 4 * depth_of_pairs (of_pairs (map pair_of l.pairs.now)) + 4
