use Rattle.std.proofs.Common.{◌≡◌, ap, subst, sym, ◌∙◌}
use Rattle.tree_model.specs.Keeps.{forgotten-tree}
use Rattle.tree_model.specs.Tree.{IsTree, links_in, links_of}
use Rattle.kernel_parts.proofs.releasing.forget_unused.Goals as goal

pub returns-then-opens_of-eq0-clause-tree : goal.returns-then-opens_of-eq0-clause-tree
returns-then-opens_of-eq0-clause-tree c =
    let none : links_of c.args.tree.now c.args.node ≡ 0 = ap links_in (sym c.in-Some.ensures.value) ∙ c.if-found-eq0.true in
    subst IsTree (sym c.forget.ensures) (forgotten-tree c.args.tree.now c.args.node c.node.ensures.tree none)
