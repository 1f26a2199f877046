-- what was passed, and what the rest of the text goes on for, are all
use Rattle.std.proofs.Common.{◌≡◌, ◌+◌, drop}
use Rattle.argdata_codec.specs.Places.{text_place}
use Rattle.argdata_codec.proofs.place.text.Given as goal

abbrev pub invariant-loop-at : goal.invariant-loop-at
invariant-loop-at l = l.at + text_place l.tail l.left (drop l.at l.body) ≡ text_place (0, (0, 0)) l.fn.room l.body
