use Rattle.std.proofs.Common.{ap, ◌∙◌, option_copied}
use Rattle.tree_model.specs.Tree.{is_directory_node}
use Rattle.tree_document.proofs.Rows.{no_directory, none_says, other_kind}
use Rattle.tree_document.proofs.printing.names_in.Goals as goal

pub returns-in_err-node-clause-none : goal.returns-in_err-node-clause-none
returns-in_err-node-clause-none c =
    none_says _ c.from_residual.result
    (no_directory c.args.tree.now c.node.ensures.tree c.args.id _ c.node.ensures.value (ap (λ o. is_directory_node (option_copied o)) c.in_err-node.was))

pub returns-in_default : goal.returns-in_default
returns-in_default c = record {
  some = tt;
  none = no_directory c.args.tree.now c.node.ensures.tree c.args.id _ c.node.ensures.value
      (ap (λ o. is_directory_node (option_copied o)) c.in_ok-node.was ∙ other_kind c.in_ok-node.field-0.now.kind c.in_default.not-Directory);
  tree = c.node.ensures.tree;
}
