use Rattle.std.proofs.Common.{arith}
use Rattle.launch_lines.proofs.KeptRows.{row_kept}
use Rattle.launch_lines.proofs.lines.row_of.Goals as goal

pub returns-clause-row : goal.returns-clause-row
returns-clause-row c =
    row_kept _ _ _ _ _ c.split_at.result.1.now c.indentation-column.ensures.value c.split_at.ensures.back c.in-len1-up.len_at_least
    c.if-first-eq35.false (omega (arith, c.split_at.ensures.back_len))
