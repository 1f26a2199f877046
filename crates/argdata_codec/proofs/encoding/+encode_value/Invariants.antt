-- The fields so far and those of what is left are all. What is called goes by the depth of what it is given.
use Rattle.std.proofs.Common.{◌≡◌, ◌+◌, ◌*◌, ◌++◌, map, drop}
use Rattle.argdata_codec.specs.Shape.{of_list, of_pairs, depth_of, depth_of_items, depth_of_pairs}
use Rattle.argdata_codec.specs.Views.{shape_of, pair_of}
use Rattle.argdata_codec.specs.Writing.{item_fields, pair_fields}
use Rattle.argdata_codec.proofs.encoding.+encode_value.Given as goal

abbrev pub invariant-encode_items-loop-item : goal.invariant-encode_items-loop-item
invariant-encode_items-loop-item l =
    l.out.items ++ item_fields (of_list (map shape_of (drop l.item-index l.items))) ≡ item_fields (of_list (map shape_of l.items))

abbrev pub invariant-encode_pairs-loop-key : goal.invariant-encode_pairs-loop-key
invariant-encode_pairs-loop-key l =
    l.out.items ++ pair_fields (of_pairs (map pair_of (drop l.key-index l.pairs))) ≡ pair_fields (of_pairs (map pair_of l.pairs))

abbrev pub decreases-encode_value : goal.decreases-encode_value
decreases-encode_value l = 3 * depth_of (shape_of l.value.now)

abbrev pub decreases-push_field : goal.decreases-push_field
decreases-push_field l = 3 * depth_of (shape_of l.value.now) + 1

abbrev pub decreases-encode_items : goal.decreases-encode_items
decreases-encode_items l = 3 * depth_of_items (of_list (map shape_of l.items.now)) + 2

abbrev pub decreases-encode_pairs : goal.decreases-encode_pairs
decreases-encode_pairs l = 3 * depth_of_pairs (of_pairs (map pair_of l.pairs.now)) + 2
