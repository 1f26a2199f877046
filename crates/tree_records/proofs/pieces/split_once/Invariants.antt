-- what is split off the rest, behind what was passed, is what is split off all
use Rattle.std.proofs.Common.{◌≡◌, ◌++◌, take, drop, option_map}
use Rattle.tree_records.specs.Reading.{split_once}
use Rattle.tree_records.proofs.pieces.split_once.Given as goal

abbrev pub invariant-loop-i : goal.invariant-loop-i
invariant-loop-i l = option_map (λ s. (take l.i l.bytes ++ s.0, s.1)) (split_once l.byte (drop l.i l.bytes)) ≡ split_once l.byte l.bytes
