-- What is in a list so far, and what the rest of the bytes gives, are all. What is called goes by the depth.
use Rattle.std.proofs.Common.{◌≡◌, ◌+◌, ◌*◌, length, map}
use Rattle.argdata_codec.specs.Views.{shape_of, pair_of}
use Rattle.argdata_codec.specs.Reading.{items_of, pairs_of, value_at}
use Rattle.argdata_codec.proofs.Loops.{with_front}
use Rattle.argdata_codec.proofs.reading.+read.Given as goal

abbrev pub decreases-value : goal.decreases-value
decreases-value l = 5 * l.depth + 4

abbrev pub decreases-pair_list : goal.decreases-pair_list
decreases-pair_list l = 5 * l.depth + 3

abbrev pub decreases-value_list : goal.decreases-value_list
decreases-value_list l = 5 * l.depth + 3

abbrev pub decreases-pairs : goal.decreases-pairs
decreases-pairs l = 5 * l.depth + 7

abbrev pub decreases-items : goal.decreases-items
decreases-items l = 5 * l.depth + 7

abbrev pub decreases-entry : goal.decreases-entry
decreases-entry l = 5 * l.depth + 6

abbrev pub invariant-items-loop-rest : goal.invariant-items-loop-rest
invariant-items-loop-rest l = with_front (map shape_of l.items.items) (items_of (value_at l.depth) l.rest) ≡ items_of (value_at l.depth) l.body

abbrev pub decreases-items-loop-rest : goal.decreases-items-loop-rest
decreases-items-loop-rest l = length l.rest

abbrev pub invariant-pairs-loop-rest : goal.invariant-pairs-loop-rest
invariant-pairs-loop-rest l = with_front (map pair_of l.pairs.items) (pairs_of (value_at l.depth) l.rest) ≡ pairs_of (value_at l.depth) l.body

abbrev pub decreases-pairs-loop-rest : goal.decreases-pairs-loop-rest
decreases-pairs-loop-rest l = length l.rest
