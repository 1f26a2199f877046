-- What was read and what is still read are all. What is called goes by the depth.
use Rattle.std.proofs.Common.{◌≡◌, ◌+◌, ◌-◌, ◌*◌, ◌≤◌, suc, length, map}
use Rattle.launch_values.specs.Views.{shape_of, pair_of}
use Rattle.launch_values.specs.Flow.{node_with, items_with, items_of, pairs_with, pairs_of, collection_at}
use Rattle.launch_values.proofs.FlowLoops.{with_front}
use Rattle.launch_values.proofs.flow.+flow.Given as goal

abbrev pub decreases-collection : goal.decreases-collection
decreases-collection l = 10 * l.depth

abbrev pub decreases-sequence_or_map : goal.decreases-sequence_or_map
decreases-sequence_or_map l = 10 * l.depth + 9

abbrev pub decreases-sequence : goal.decreases-sequence
decreases-sequence l = 10 * l.depth + 8

abbrev pub decreases-mapping : goal.decreases-mapping
decreases-mapping l = 10 * l.depth + 8

abbrev pub decreases-value : goal.decreases-value
decreases-value l = 10 * l.depth + 1

abbrev pub decreases-named : goal.decreases-named
decreases-named l = 10 * l.depth + 2

abbrev pub decreases-base64 : goal.decreases-base64
decreases-base64 l = 10 * l.depth + 2

abbrev pub decreases-tagged : goal.decreases-tagged
decreases-tagged l = 10 * l.depth + 3

abbrev pub decreases-node : goal.decreases-node
decreases-node l = 10 * l.depth + 4

abbrev pub decreases-keyed : goal.decreases-keyed
decreases-keyed l = 10 * l.depth + 5

abbrev pub decreases-items : goal.decreases-items
decreases-items l = 10 * l.depth + 7

abbrev pub decreases-pair : goal.decreases-pair
decreases-pair l = 10 * l.depth + 6

abbrev pub decreases-pairs : goal.decreases-pairs
decreases-pairs l = 10 * l.depth + 7

abbrev pub invariant-items-loop : goal.invariant-items-loop
invariant-items-loop l =
    (with_front (map shape_of l.list.items) (items_with (node_with (collection_at l.depth l.line) l.line) (suc (length l.bytes) - l.counter) l.rest)
    ≡ items_of (node_with (collection_at l.depth l.line) l.line) l.bytes)
    × (length l.rest ≤ length l.bytes)

abbrev pub invariant-pairs-loop : goal.invariant-pairs-loop
invariant-pairs-loop l =
    (with_front (map pair_of l.list.items) (pairs_with (node_with (collection_at l.depth l.line) l.line) l.line l.keys (suc (length l.bytes) - l.counter) l.rest)
    ≡ pairs_of (node_with (collection_at l.depth l.line) l.line) l.line l.bytes)
    × (length l.rest ≤ length l.bytes)
