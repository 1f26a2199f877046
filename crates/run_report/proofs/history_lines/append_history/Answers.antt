use Rattle.std.proofs.Common.{◌∙◌}
use Rattle.std.proofs.lemmas.Result.{on_ok_weaker}
use Rattle.run_report.proofs.HistoryTexts.{history_reported}
use Rattle.run_report.proofs.history_lines.append_history.Goals as goal

pub returns : goal.returns
returns c =
    on_ok_weaker c.append_entries.result
    (history_reported _ _ _ _ _ c.len-count.result c.len-count.ensures (c.as_bytes.ensures.value ∙ c.in_ok-format.ensures.ok) c.in_ok-append.ensures.ok)
    c.append_entries.ensures
