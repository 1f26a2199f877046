-- what is written so far
use Rattle.std.proofs.Common.{◌≡◌, ◌++◌}
use Rattle.std.specs.List.{flat_map, range_with_len}
use Rattle.guest_kit.specs.Trees.{file_text}
use Rattle.guest_kit.proofs.tree_text.push_files.Given as goal

abbrev pub invariant-loop-i : goal.invariant-loop-i
invariant-loop-i l = l.out.items ≡ l.initial.out.items ++ flat_map (file_text l.n) (range_with_len 0 l.i)
