use Rattle.std.proofs.Common.{List, ℕ, Some, sym, ap, ◌∙◌}
use Rattle.tree_model.specs.declared.limits.TheConstants.{ROOT}
use Rattle.tree_records.proofs.Unescaping.{empty, nonempty}
use Rattle.tree_document.specs.Building.{node_at}
use Rattle.tree_document.specs.Views.{path_in}
use Rattle.tree_document.proofs.Walks.{parent_leads, some_bytes}
use Rattle.tree_document.proofs.walking.parent_of.Goals as goal

pub returns-then-is_empty : goal.returns-then-is_empty
returns-then-is_empty c =
    parent_leads c.args.tree.now c.args.path.now c.parent-parent.result.now (Some ROOT) c.parent-parent.ensures.path c.parent-parent.ensures.bytes
    (sym (ap (λ (bs : List ℕ). node_at c.args.tree.now ROOT (path_in bs))
    (empty c.parent-parent.result.now c.is_empty.result c.is_empty.ensures c.if-is_empty.true)))

pub returns-else-is_empty : goal.returns-else-is_empty
returns-else-is_empty c =
    parent_leads c.args.tree.now c.args.path.now c.parent-parent.result.now c.names_lead.result c.parent-parent.ensures.path c.parent-parent.ensures.bytes
    (c.names_lead.ensures
    ∙ sym (ap (node_at c.args.tree.now ROOT) (some_bytes c.parent-parent.result.now
    (nonempty c.parent-parent.result.now c.is_empty.result c.is_empty.ensures c.if-is_empty.false))))
