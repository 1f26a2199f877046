use Rattle.std.proofs.Common.{ℕ, sym, ap, ◌∙◌}
use Rattle.std.specs.FinMap as map
use Rattle.maps.specs.Closure.{len-changed}
use Rattle.tree_model.specs.Tree.{Tree}
use Rattle.file_tree.specs.declared.slot.Slot.{Slot}
use Rattle.file_tree.proofs.tree.Tree.len.Goals as goal

pub returns-clause-nodes : goal.returns-clause-nodes
returns-clause-nodes c =
    c.len.ensures.len ∙ sym (len-changed (λ (_ : ℕ) (s : Slot). s.node) c.self.inside.slots) ∙ ap (λ (t : Tree). map.len t.nodes) c.self.view_is
