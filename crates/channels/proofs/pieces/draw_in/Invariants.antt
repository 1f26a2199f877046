use Rattle.std.proofs.Common.{◌≡◌}
use Rattle.std.specs.VecDeque.{deque_len}
use Rattle.channels.specs.Rings.{pieces_from, drawn_in}
use Rattle.channels.proofs.pieces.draw_in.Given as goal

abbrev pub invariant-loop-first : goal.invariant-loop-first
invariant-loop-first l =
    (pieces_from l.drawn l.pieces.items ≡ pieces_from l.fn.end l.initial.pieces.items)
    × (drawn_in l.drawn l.pieces.items ≡ drawn_in l.fn.end l.initial.pieces.items)

abbrev pub decreases-loop-first : goal.decreases-loop-first
decreases-loop-first l = deque_len l.pieces
