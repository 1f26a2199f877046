-- What was passed, and what the rest goes on for, are all. What is called goes by the depth.
use Rattle.std.proofs.Common.{◌≡◌, ◌+◌, ◌-◌, ◌*◌, ◌≤◌, length, drop}
use Rattle.argdata_codec.specs.Reading.{value_at}
use Rattle.argdata_codec.specs.Places.{fields_place, value_place}
use Rattle.argdata_codec.proofs.place.+place.Given as goal

abbrev pub decreases-value : goal.decreases-value
decreases-value l = 4 * l.depth + 3

abbrev pub decreases-container : goal.decreases-container
decreases-container l = 4 * l.depth + 2

abbrev pub decreases-fields : goal.decreases-fields
decreases-fields l = 4 * l.depth + 5

abbrev pub decreases-unfinished : goal.decreases-unfinished
decreases-unfinished l = 4 * l.depth + 4

abbrev pub invariant-fields-loop : goal.invariant-fields-loop
invariant-fields-loop l =
    (l.at + fields_place (value_at l.depth) (value_place l.depth) (length l.body - l.counter) l.turn l.groups l.left (drop l.at l.body)
    ≡ fields_place (value_at l.depth) (value_place l.depth) (length l.body) l.fn.turn 0 l.fn.room l.body)
    × (l.at ≤ length l.body) × (l.counter ≤ l.at)
