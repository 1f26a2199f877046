-- What is in a list so far, and what the lines from here on give, are all. What is called goes by the depth and the lines.
use Rattle.std.proofs.Common.{◌≡◌, ◌≤◌, ◌+◌, ◌*◌, suc, length, map}
use Rattle.launch_values.specs.Views.{shape_of, pair_of as pair_view}
use Rattle.launch_lines.specs.Views.{row, rows, AllWithin, lines_from}
use Rattle.launch_yaml.specs.Entries.{sequence_entries, map_entries}
use Rattle.launch_yaml.specs.Blocks.{item_of, items_of, pair_of, pairs_of, items_at, pairs_at, block_at}
use Rattle.launch_yaml.proofs.Loops.{with_front}
use Rattle.launch_yaml.proofs.blocks.+blocks.Given as goal

abbrev pub decreases-block : goal.decreases-block
decreases-block l = 8 * (l.depth + length l.others.now)

abbrev pub decreases-below : goal.decreases-below
decreases-below l = 8 * (l.depth + length l.others.now) + 1

abbrev pub decreases-untagged_value : goal.decreases-untagged_value
decreases-untagged_value l = 8 * (l.depth + length l.others.now) + 2

abbrev pub decreases-value : goal.decreases-value
decreases-value l = 8 * (l.depth + length l.others.now) + 3

abbrev pub decreases-entry_value : goal.decreases-entry_value
decreases-entry_value l = 8 * (l.depth + length l.others.now) + 4

abbrev pub decreases-item : goal.decreases-item
decreases-item l = 8 * (l.depth + length l.others.now) + 4

abbrev pub decreases-items : goal.decreases-items
decreases-items l = 8 * (l.depth + length l.others.now) + 5

abbrev pub decreases-pairs : goal.decreases-pairs
decreases-pairs l = 8 * (l.depth + length l.others.now) + 5

abbrev pub invariant-items-loop-next : goal.invariant-items-loop-next
invariant-items-loop-next l = record {
  all : with_front (map shape_of l.items.items) (items_of (item_of (block_at l.depth) l.depth l.line.column l.is_root) (sequence_entries l.line.column (rows l.text (lines_from l.next l.rest))))
      ≡ items_at (block_at l.depth) l.depth l.is_root (row l.text l.line) (rows l.text l.others);
  within : AllWithin l.text (lines_from l.next l.rest);
  fewer : length (lines_from l.next l.rest) ≤ suc (length l.others);
}

abbrev pub decreases-items-loop-next : goal.decreases-items-loop-next
decreases-items-loop-next l = length (lines_from l.next l.rest)

abbrev pub invariant-pairs-loop-next : goal.invariant-pairs-loop-next
invariant-pairs-loop-next l = record {
  all : with_front (map pair_view l.pairs.items) (pairs_of (pair_of (block_at l.depth) l.depth l.line.column l.is_root) l.keys (map_entries l.line.column (rows l.text (lines_from l.next l.rest))))
      ≡ pairs_at (block_at l.depth) l.depth l.is_root (row l.text l.line) (rows l.text l.others);
  within : AllWithin l.text (lines_from l.next l.rest);
  fewer : length (lines_from l.next l.rest) ≤ suc (length l.others);
}

abbrev pub decreases-pairs-loop-next : goal.decreases-pairs-loop-next
decreases-pairs-loop-next l = length (lines_from l.next l.rest)
