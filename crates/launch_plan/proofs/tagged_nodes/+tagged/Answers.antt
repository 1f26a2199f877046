-- What stands in a list is no deeper than the list; and the steps of the two loops.
use Rattle.std.proofs.Common.{◌+◌, ◌++◌, ap, refl, arith}
use Rattle.std.proofs.lemmas.Result.{err_from_is_err_and}
use Rattle.launch_values.specs.declared.node.Node.{Node}
use Rattle.launch_values.specs.Shape.{depth_of}
use Rattle.launch_values.specs.Views.{shape_of}
use Rattle.launch_plan.specs.Tagged.{tagged}
use Rattle.launch_plan.proofs.Depths.{item_depth, pair_depth}
use Rattle.lists.proofs.Steps.{stopped}
use Rattle.launch_plan.proofs.Grants.{goes_on, fails, left_of, pairs_left_of, item_here, pair_here}
use Rattle.launch_plan.proofs.tagged_nodes.+tagged.Goals as goal

pub push_of_items-push_grants-requires : goal.push_of_items-push_grants-requires
push_of_items-push_grants-requires t c =
    (omega (arith, c.decreases, ap (λ (x : Node). depth_of (shape_of x)) c.item-item.is, item_depth c.args.items.now c.loop-item.item-index c.item-item.result c.loop-item-test.true), tt)

pub push_of_items-returns-in_err-push_grants : goal.push_of_items-returns-in_err-push_grants
push_of_items-returns-in_err-push_grants t c =
    let p = err_from_is_err_and c.from_residual.result c.from_residual.ensures.1 in
    rw (p.1, p.2) (stopped c.in_err-push_grants.field-0.0 _ _
    (λ f. fails c.args.tree.now c.loop-item.grants _ (tagged (shape_of c.item-item.result)) (left_of c.args.items.now (c.loop-item.item-index + 1)) _ f
    (item_here c.args.items.now c.loop-item.item-index c.item-item.result c.loop-item-test.true c.item-item.is) c.loop-item.invariant) c.in_err-push_grants.ensures)

pub push_of_items-loop-item-preserved : goal.push_of_items-loop-item-preserved
push_of_items-loop-item-preserved t c =
    goes_on c.args.tree.now c.loop-item.grants c.push_grants.new.grants _ (tagged (shape_of c.item-item.result)) _ _
    (item_here c.args.items.now c.loop-item.item-index c.item-item.result c.loop-item-test.true c.item-item.is) c.loop-item.invariant c.in_ok-push_grants.ensures

pub push_of_pairs-push_grants-requires : goal.push_of_pairs-push_grants-requires
push_of_pairs-push_grants-requires t c =
    (omega (arith, c.decreases, ap (λ (p : Node × Node). depth_of (shape_of p.0)) c.loop-key-item.is, pair_depth c.args.pairs.now c.loop-key.key-index c.loop-key-item.result c.loop-key-test.true), tt)

pub push_of_pairs-push_grants-requires-in-loop-key : goal.push_of_pairs-push_grants-requires-in-loop-key
push_of_pairs-push_grants-requires-in-loop-key t c =
    (omega (arith, c.decreases, ap (λ (p : Node × Node). depth_of (shape_of p.1)) c.loop-key-item.is, pair_depth c.args.pairs.now c.loop-key.key-index c.loop-key-item.result c.loop-key-test.true), tt)

pub push_of_pairs-returns-in_err-push_grants : goal.push_of_pairs-returns-in_err-push_grants
push_of_pairs-returns-in_err-push_grants t c =
    let p = err_from_is_err_and c.from_residual.result c.from_residual.ensures.1 in
    rw (p.1, p.2) (stopped c.in_err-push_grants.field-0.0 _ _
    (λ f. fails c.args.tree.now c.loop-key.grants _ (tagged (shape_of c.loop-key-item.result.0)) (tagged (shape_of c.loop-key-item.result.1) ++ pairs_left_of c.args.pairs.now (c.loop-key.key-index + 1)) _ f
    (pair_here c.args.pairs.now c.loop-key.key-index c.loop-key-item.result c.loop-key-test.true c.loop-key-item.is) c.loop-key.invariant) c.in_err-push_grants.ensures)

pub push_of_pairs-returns-in_err-push_grants-2 : goal.push_of_pairs-returns-in_err-push_grants-2
push_of_pairs-returns-in_err-push_grants-2 t c =
    let p = err_from_is_err_and c.from_residual-in_err-push_grants-2.result c.from_residual-in_err-push_grants-2.ensures.1 in
    let key = goes_on c.args.tree.now c.loop-key.grants c.push_grants.new.grants _ (tagged (shape_of c.loop-key-item.result.0)) (tagged (shape_of c.loop-key-item.result.1) ++ pairs_left_of c.args.pairs.now (c.loop-key.key-index + 1)) _
    (pair_here c.args.pairs.now c.loop-key.key-index c.loop-key-item.result c.loop-key-test.true c.loop-key-item.is) c.loop-key.invariant c.in_ok-push_grants.ensures in
    rw (p.1, p.2) (stopped c.in_err-push_grants-2.field-0.0 _ _
    (λ f. fails c.args.tree.now c.push_grants.new.grants _ (tagged (shape_of c.loop-key-item.result.1)) (pairs_left_of c.args.pairs.now (c.loop-key.key-index + 1)) _ f refl key) c.in_err-push_grants-2.ensures)

pub push_of_pairs-loop-key-preserved : goal.push_of_pairs-loop-key-preserved
push_of_pairs-loop-key-preserved t c =
    let key = goes_on c.args.tree.now c.loop-key.grants c.push_grants.new.grants _ (tagged (shape_of c.loop-key-item.result.0)) (tagged (shape_of c.loop-key-item.result.1) ++ pairs_left_of c.args.pairs.now (c.loop-key.key-index + 1)) _
    (pair_here c.args.pairs.now c.loop-key.key-index c.loop-key-item.result c.loop-key-test.true c.loop-key-item.is) c.loop-key.invariant c.in_ok-push_grants.ensures in
    goes_on c.args.tree.now c.push_grants.new.grants c.push_grants-in-loop-key.new.grants _ (tagged (shape_of c.loop-key-item.result.1)) _ _ refl key c.in_ok-push_grants-2.ensures
