use Rattle.std.proofs.Common.{◌≡◌, ◌+◌, ◌-◌, ◌^◌, ◌<◌, length, drop}
use Rattle.channels.specs.Rings.{plain_pieces, pieces_left, reach_pieces, size_of}
use Rattle.channels.proofs.pieces.reach_in.Given as goal

abbrev pub invariant-loop-reach : goal.invariant-loop-reach
invariant-loop-reach l =
    (l.reach + plain_pieces (drop l.at l.pieces.items) ≡ reach_pieces (pieces_left l.drawn l.pieces.items))
    × (l.reach + size_of (drop l.at l.pieces.items) < 2 ^ 63)

abbrev pub decreases-loop-reach : goal.decreases-loop-reach
decreases-loop-reach l = length l.pieces.items - l.at
