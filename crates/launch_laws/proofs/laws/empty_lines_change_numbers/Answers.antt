use Rattle.launch_laws.proofs.LineEnds.{empty_lines_are_no_rows}
use Rattle.launch_laws.proofs.LineNumbers.{empty_lines_change_numbers as numbers_change}
use Rattle.launch_laws.proofs.laws.empty_lines_change_numbers.Goals as goal

pub returns : goal.returns
returns c = record { rows = empty_lines_are_no_rows; numbers = numbers_change }
