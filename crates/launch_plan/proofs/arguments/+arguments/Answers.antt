-- What stands in a list is no deeper than the list; and the steps of the two loops.
use Rattle.std.proofs.Common.{map, ap, sym, ◌∙◌, arith}
use Rattle.std.proofs.lemmas.List.{map-append}
use Rattle.argdata_codec.specs.Views.{shape_of as argument_of, pair_of as argument_pair_of}
use Rattle.launch_values.specs.declared.node.Node.{Node}
use Rattle.launch_values.specs.Shape.{depth_of}
use Rattle.launch_values.specs.Views.{shape_of}
use Rattle.launch_plan.proofs.Depths.{item_depth, pair_depth}
use Rattle.launch_plan.proofs.ArgumentLists.{items_count, pairs_count, item_more, pair_more, no_items_from, no_pairs_from, all_items, all_pairs, before_items, before_pairs}
use Rattle.launch_plan.proofs.arguments.+arguments.Goals as goal

pub content_of_items-argument-requires : goal.content_of_items-argument-requires
content_of_items-argument-requires t c = (
  omega (arith, c.decreases, ap (λ (x : Node). depth_of (shape_of x)) c.item-item.is, item_depth c.args.items.now c.loop-item.item-index c.item-item.result c.loop-item-test.true),
  omega (arith, c.requires, c.loop-item.invariant.1, items_count c.args.items.now c.loop-item.item-index c.item-item.result c.loop-item-test.true c.item-item.is),
)

pub content_of_items-loop-item-preserved : goal.content_of_items-loop-item-preserved
content_of_items-loop-item-preserved t c = (
  item_more (map argument_of c.loop-item.values.items) _ (argument_of c.in_ok-argument.field-0) c.loop-item.next c.argument.new.next c.args.items.now c.loop-item.item-index c.item-item.result _
      (ap (map argument_of) c.in_ok-push.ensures.items ∙ map-append argument_of c.loop-item.values.items _) c.loop-item-test.true c.item-item.is c.in_ok-argument.ensures.value c.in_ok-argument.ensures.next c.loop-item.invariant.0,
  omega (arith, c.in_ok-argument.ensures.next, c.loop-item.invariant.1, items_count c.args.items.now c.loop-item.item-index c.item-item.result c.loop-item-test.true c.item-item.is),
)

pub content_of_items-returns-clause-value : goal.content_of_items-returns-clause-value
content_of_items-returns-clause-value t c =
    sym (all_items (map argument_of c.loop-item.values.items))
    ∙ sym (ap (before_items (map argument_of c.loop-item.values.items)) (no_items_from c.loop-item.next c.args.items.now c.loop-item.item-index c.loop-item-test.false))
    ∙ c.loop-item.invariant.0

pub content_of_pairs-argument-requires : goal.content_of_pairs-argument-requires
content_of_pairs-argument-requires t c = (
  omega (arith, c.decreases, ap (λ (p : Node × Node). depth_of (shape_of p.0)) c.loop-key-item.is, pair_depth c.args.pairs.now c.loop-key.key-index c.loop-key-item.result c.loop-key-test.true),
  omega (arith, c.requires, c.loop-key.invariant.1, pairs_count c.args.pairs.now c.loop-key.key-index c.loop-key-item.result c.loop-key-test.true c.loop-key-item.is),
)

pub content_of_pairs-argument-requires-in-loop-key : goal.content_of_pairs-argument-requires-in-loop-key
content_of_pairs-argument-requires-in-loop-key t c = (
  omega (arith, c.decreases, ap (λ (p : Node × Node). depth_of (shape_of p.1)) c.loop-key-item.is, pair_depth c.args.pairs.now c.loop-key.key-index c.loop-key-item.result c.loop-key-test.true),
  omega (arith, c.requires, c.in_ok-key.ensures.next, c.loop-key.invariant.1, pairs_count c.args.pairs.now c.loop-key.key-index c.loop-key-item.result c.loop-key-test.true c.loop-key-item.is),
)

pub content_of_pairs-loop-key-preserved : goal.content_of_pairs-loop-key-preserved
content_of_pairs-loop-key-preserved t c = (
  pair_more (map argument_pair_of c.loop-key.values.items) _ (argument_of c.in_ok-key.key) (argument_of c.in_ok-argument.field-0) c.loop-key.next c.argument.new.next c.argument-in-loop-key.new.next
      c.args.pairs.now c.loop-key.key-index c.loop-key-item.result _
      (ap (map argument_pair_of) c.in_ok-push.ensures.items ∙ map-append argument_pair_of c.loop-key.values.items _) c.loop-key-test.true c.loop-key-item.is c.in_ok-key.ensures.value c.in_ok-key.ensures.next
      c.in_ok-argument.ensures.value c.in_ok-argument.ensures.next c.loop-key.invariant.0,
  omega (arith, c.in_ok-key.ensures.next, c.in_ok-argument.ensures.next, c.loop-key.invariant.1, pairs_count c.args.pairs.now c.loop-key.key-index c.loop-key-item.result c.loop-key-test.true c.loop-key-item.is),
)

pub content_of_pairs-returns-clause-value : goal.content_of_pairs-returns-clause-value
content_of_pairs-returns-clause-value t c =
    sym (all_pairs (map argument_pair_of c.loop-key.values.items))
    ∙ sym (ap (before_pairs (map argument_pair_of c.loop-key.values.items)) (no_pairs_from c.loop-key.next c.args.pairs.now c.loop-key.key-index c.loop-key-test.false))
    ∙ c.loop-key.invariant.0
