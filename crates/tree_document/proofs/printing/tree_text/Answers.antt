use Rattle.tree_document.proofs.Going.{going_start}
use Rattle.tree_document.proofs.Texts.{printed_start}
use Rattle.tree_document.proofs.printing.tree_text.Goals as goal

pub loop-frame-init : goal.loop-frame-init
loop-frame-init c =
    going_start c.args.tree.now c.new-printed.result.text.items c.new-printed.result.records c.new-printed.result.firsts c.new.result.items c.new-frames.result.items
    c.push_names.new.frames.items c.push_names.ensures.tree
    (printed_start c.args.tree.now c.new-printed.result.text.items c.new-printed.result.records c.new-printed.result.firsts c.new-printed.ensures.text c.new-printed.ensures.records
    c.new-printed.ensures.firsts)
    c.new.ensures.items c.new-frames.ensures.items c.in_ok-push_names.ensures.rows
