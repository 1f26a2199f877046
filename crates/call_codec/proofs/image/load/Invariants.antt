use Rattle.std.proofs.Common.{◌≡◌, drop}
use Rattle.std.specs.FinMap as map
use Rattle.call_codec.specs.Image.{with_segments}
use Rattle.call_codec.proofs.Rooms.{HasRoom}
use Rattle.call_codec.proofs.image.load.Given as goal

-- the segments so far, and those that are left, are all, and there is room for those that are left
abbrev pub invariant-loop-segment : goal.invariant-loop-segment
invariant-loop-segment l = record {
  all : with_segments l.memory (drop l.segment-index l.segments) ≡ with_segments map.empty l.segments;
  room : HasRoom l.memory (drop l.segment-index l.segments);
}
