use Rattle.std.proofs.Common.{◌≡◌, ◌+◌, ◌-◌, length, ap, ◌∙◌, arith}
use Rattle.maps.specs.declared.name_tree.NameNode.{NameNode}
use Rattle.maps.specs.NameTrees.{entry_in}
use Rattle.maps.proofs.Places.{placed-behind}
use Rattle.maps.proofs.name_tree.NameTree.+remove.Goals as goal

pub returns-then-before-place-clause-entry : goal.returns-then-before-place-clause-entry
returns-then-before-place-clause-entry g t c =
    let node = c.in-Full.node.value in
    let before : c.len-before.result ≡ length node.before = c.len-before.ensures ∙ ap (λ (n : NameNode g.row.V.Denot). length n.before) c.deref.ensures in
    let later = c.if-before-place.true in
    let at : c.args.place ≡ length node.before + 1 + (c.args.place - c.len-before.result - 1) = omega (arith, before, later) in
    let behind = placed-behind c.args.place (c.args.place - c.len-before.result - 1) (entry_in c.remove-found-then-before-place.result.0.value) node.before (entry_in node) c.remove-found-then-before-place.result.1 at in
    grind (arith, behind)
