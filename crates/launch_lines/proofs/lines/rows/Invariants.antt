-- the rows so far and those of what is left are all
use Rattle.std.proofs.Common.{◌≡◌, length, ◌+◌, ◌<◌, ◌^◌, ◌++◌, drop}
use Rattle.launch_lines.specs.Lines.{lines_of}
use Rattle.launch_lines.specs.Rows.{rows_from}
use Rattle.launch_lines.specs.Views.{rows, AllWithin}
use Rattle.launch_lines.proofs.lines.rows.Given as goal

abbrev pub invariant-loop-row : goal.invariant-loop-row
invariant-loop-row l = record {
  all : rows l.text l.rows.items ++ rows_from l.number (lines_of l.rest) ≡ rows_from 1 (lines_of l.fn.text);
  within : AllWithin l.text l.rows.items;
  there : l.rest ≡ drop l.start l.text;
  whole : l.start + length l.rest ≡ length l.text;
  short : length l.text < 2 ^ 32;
  fits : l.number < 2 ^ 32;
  numbered : l.number + length (lines_of l.rest) ≡ 1 + length (lines_of l.fn.text);
}

abbrev pub decreases-loop-row : goal.decreases-loop-row
decreases-loop-row l = length l.rest
