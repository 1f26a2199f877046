use Rattle.std.proofs.Common.{◌+◌, sym, ap, ◌∙◌, arith}
use Rattle.std.specs.FinMap.{get}
use Rattle.maps.specs.Maps.{number}
use Rattle.tree_model.specs.Tree.{one_for}
use Rattle.object_store.proofs.Nodes.{one_more_at, no_zero_put}
use Rattle.object_store.proofs.by_node.count_open.Goals as goal

pub returns-clause-more : goal.returns-clause-more
returns-clause-more c n =
    let was = c.count_of-count.ensures ∙ ap (λ k. number (get c.args.by_node.now k)) (sym c.node.view_is) in
    let more = one_more_at _ c.node.inside.0 _ (ap (λ x. x + 1) was) n in
    let now = ap (λ m. number (get m n)) c.in_ok-insert.ensures.ok in
    let one = c.in-Some.ensures n ∙ ap (one_for n) (sym c.node.view_is) in
    omega (arith, now, more, one)

pub returns-clause-no_zero : goal.returns-clause-no_zero
returns-clause-no_zero c no_zero =
    rw c.in_ok-insert.ensures.ok (no_zero_put _ c.node.inside.0 (c.count_of-count.result + 1) (omega arith) no_zero)
