use Rattle.std.proofs.Common.{sym, ap, ◌∙◌, ◌∷◌, ◌-◌, take, drop, length}
use Rattle.launch_lines.specs.Lines.{lines_of}
use Rattle.launch_lines.proofs.Pieces.{only_line, line_and_more, by_length}
use Rattle.launch_lines.proofs.lines.next_line.Goals as goal

pub returns-in-empty-clause-line : goal.returns-in-empty-clause-line
returns-in-empty-clause-line c = only_line _ _ _ _ c.line_length.ensures.value c.split_at.ensures.front c.split_at.ensures.back c.in-empty.len_below

pub returns-in-len1-up-clause-line : goal.returns-in-len1-up-clause-line
returns-in-len1-up-clause-line c =
    line_and_more _ _ _ _ c.line_length.ensures.value c.split_at.ensures.front c.split_at.ensures.back c.in-len1-up.len_at_least
    ∙ ap (λ l. l ∷ lines_of (take (length c.split_at.result.1.now - 1) (drop 1 c.split_at.result.1.now))) (sym c.without_return.ensures.value)

pub returns-in-len1-up-clause-behind : goal.returns-in-len1-up-clause-behind
returns-in-len1-up-clause-behind c = by_length _ _ _ c.split_at.ensures.back c.in-len1-up.len_at_least
