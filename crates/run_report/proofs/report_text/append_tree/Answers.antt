use Rattle.std.proofs.Common.{◌∙◌}
use Rattle.std.proofs.lemmas.Result.{on_ok_weaker}
use Rattle.run_report.proofs.TreeTexts.{tree_reported}
use Rattle.run_report.proofs.report_text.append_tree.Goals as goal

pub returns : goal.returns
returns c =
    on_ok_weaker c.append-2.result
    (tree_reported _ _ _ _ _ c.in_ok-document.document.records c.args.tree.now (c.as_bytes.ensures.value ∙ c.in_ok-format.ensures.ok) c.in_ok-append.ensures.ok
    c.in_ok-document.ensures.records (c.as_slice.ensures ∙ c.in_ok-document.ensures.text))
    c.append-2.ensures.ok
