use Rattle.std.proofs.Common.{◌≡◌}
use Rattle.call_codec.specs.Image.{with_pages}
use Rattle.call_codec.proofs.image.map_segment.Given as goal

-- the pages so far are mapped
abbrev pub invariant-loop-index : goal.invariant-loop-index
invariant-loop-index l = l.memory ≡ with_pages l.fn.memory l.segment l.index
