use Rattle.std.proofs.Common.{Some, ap, ◌∙◌}
use Rattle.kernel_model.specs.Families.FileLooks.{report_in}
use Rattle.kernel_model.specs.Families.FilePaths.{walked}
use Rattle.kernel_model.specs.Outcome.{replies}
use Rattle.file_calls.specs.Walks.{node_or_refusal}
use Rattle.file_calls.proofs.Walks.{found_goes_on, lost_replies}
use Rattle.file_calls.proofs.stats.file_stat_get.Goals as goal

pub returns-in-Ok : goal.returns-in-Ok
returns-in-Ok c =
    c.report_node.ensures
    ∙ found_goes_on (report_in c.args.tree.now) _ c.in-Ok.node
    (c.in-Ok.ensures ∙ ap (λ mode. node_or_refusal (walked c.args.tree.now mode c.args.path.now (Some c.args.kind.now))) c.lookup_mode.ensures)

pub returns-in-Err : goal.returns-in-Err
returns-in-Err c =
    ap replies c.reply_of.ensures
    ∙ lost_replies (report_in c.args.tree.now) _ c.in-Err.refusal
    (c.in-Err.ensures ∙ ap (λ mode. node_or_refusal (walked c.args.tree.now mode c.args.path.now (Some c.args.kind.now))) c.lookup_mode.ensures)
