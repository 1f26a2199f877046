use Rattle.std.proofs.Common.{◌∙◌}
use Rattle.std.proofs.lemmas.Result.{on_ok_weaker}
use Rattle.run_report.proofs.HistoryTexts.{denials_reported}
use Rattle.run_report.proofs.denials.append_denials.Goals as goal

pub returns : goal.returns
returns c =
    on_ok_weaker c.append_lines.result
    (denials_reported _ _ _ _ _ c.len-count.result c.len-count.ensures (c.as_bytes.ensures.value ∙ c.in_ok-format.ensures.ok) c.in_ok-append.ensures.ok)
    c.append_lines.ensures
