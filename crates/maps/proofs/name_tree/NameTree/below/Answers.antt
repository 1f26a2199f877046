use Rattle.std.proofs.Common.{◌≡◌, ◌++◌, ◌∷◌, true, false, length, sym, ap, ◌∙◌, arith}
use Rattle.std.specs.Ordering.{is_lt}
use Rattle.std.specs.Vec.{vec_items}
use Rattle.maps.specs.Names.{name_cmp}
use Rattle.maps.specs.NameTrees.{row, entry_in}
use Rattle.maps.specs.declared.name_tree.NameNode.{NameNode}
use Rattle.maps.proofs.OrderedNames.{step-before, step-behind}
use Rattle.maps.proofs.name_tree.NameTree.below.Goals as goal

pub loop-tree-preserved-then-is_lower : goal.loop-tree-preserved-then-is_lower
loop-tree-preserved-then-is_lower g c =
    let node = c.in-Full.node.value in
    let held = c.loop-tree.invariant in
    let is : node.before ++ entry_in node ∷ node.after ≡ c.loop-tree.tree.now = ap row (sym c.in-Full.is) ∙ c.tree.view_is in
    let low : is_lt (name_cmp (vec_items node.name) c.args.name.now) ≡ true =
    ap (λ xs. is_lt (name_cmp xs c.args.name.now)) (ap (λ (n : NameNode g.row.V.Denot). vec_items n.name) (sym c.deref.ensures) ∙ sym c.as_slice.ensures.value) ∙ sym c.is_lower.ensures ∙ c.if-is_lower.true in
    let parts = step-behind c.args.name.now node.before (entry_in node) node.after _ is held.0 low in
    let first = ap (λ (n : NameNode g.row.V.Denot). length n.before) c.deref-then-is_lower.ensures in
    let len = c.len.ensures in
    rw c.deref-then-is_lower-2.ensures (parts.0, omega (arith, parts.1, held.1, first, len), omega (arith, parts.2, held.2, first, len))

pub loop-tree-preserved : goal.loop-tree-preserved
loop-tree-preserved g c =
    let node = c.in-Full.node.value in
    let held = c.loop-tree.invariant in
    let is : node.before ++ entry_in node ∷ node.after ≡ c.loop-tree.tree.now = ap row (sym c.in-Full.is) ∙ c.tree.view_is in
    let high : is_lt (name_cmp (vec_items node.name) c.args.name.now) ≡ false =
    ap (λ xs. is_lt (name_cmp xs c.args.name.now)) (ap (λ (n : NameNode g.row.V.Denot). vec_items n.name) (sym c.deref.ensures) ∙ sym c.as_slice.ensures.value) ∙ sym c.is_lower.ensures ∙ c.if-is_lower.false in
    let parts = step-before c.args.name.now node.before (entry_in node) node.after _ is held.0 high in
    rw c.deref-else-is_lower.ensures (parts.0, omega (arith, parts.1, held.1), omega (arith, parts.2, held.2))
