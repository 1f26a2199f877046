use Rattle.std.proofs.Common.{List, ◌++◌, sym, ap, ◌∙◌}
use Rattle.tree_document.specs.Left.{rows_left, rows_of}
use Rattle.tree_document.specs.Printing.{Row}
use Rattle.tree_document.proofs.Rows.{reach_rows, rows_left_push}
use Rattle.tree_document.proofs.printing.push_names.Goals as goal

pub returns-in_ok-push-clause-rows : goal.returns-in_ok-push-clause-rows
returns-in_ok-push-clause-rows c =
    let t = c.args.tree.now in
    ap (rows_left t) c.in_ok-push.ensures.items
    ∙ rows_left_push t c.args.frames.now.items _
    ∙ ap (λ (rows : List Row). rows ++ rows_left t c.args.frames.now.items)
    (ap (rows_of t c.args.path.items) c.in-Some.ensures.some ∙ sym (reach_rows t c.names_in.ensures.tree c.args.path.items c.args.id))
