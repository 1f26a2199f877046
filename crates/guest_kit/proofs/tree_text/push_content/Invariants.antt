-- what is written so far
use Rattle.std.proofs.Common.{◌≡◌, ◌++◌, map}
use Rattle.std.specs.List.{range_with_len}
use Rattle.guest_kit.specs.Trees.{content_byte}
use Rattle.guest_kit.proofs.tree_text.push_content.Given as goal

abbrev pub invariant-loop-k : goal.invariant-loop-k
invariant-loop-k l = l.out.items ≡ l.initial.out.items ++ map (content_byte l.n l.i) (range_with_len 0 l.k)
