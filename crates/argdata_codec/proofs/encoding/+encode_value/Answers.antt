-- what stands in a list is no deeper than the list
use Rattle.std.proofs.Common.{rules, arith, ap}
use Rattle.argdata_codec.proofs.Folded.{map_shape}
use Rattle.argdata_codec.specs.declared.value.Value.{Value}
use Rattle.argdata_codec.specs.Shape.{depth_of}
use Rattle.argdata_codec.specs.Views.{shape_of}
use Rattle.argdata_codec.proofs.Depths.{item_depth, pair_depth}
use Rattle.argdata_codec.proofs.encoding.+encode_value.Goals as goal

pub encode_items-push_field-requires : goal.encode_items-push_field-requires
encode_items-push_field-requires t c =
    (omega (arith, c.decreases, ap (λ (x : Value). depth_of (shape_of x)) c.item-item.is, item_depth c.args.items.now c.loop-item.item-index c.item-item.result c.loop-item-test.true), tt)

pub encode_pairs-push_field-requires : goal.encode_pairs-push_field-requires
encode_pairs-push_field-requires t c =
    (omega (arith, c.decreases, ap (λ (p : Value × Value). depth_of (shape_of p.0)) c.loop-key-item.is, pair_depth c.args.pairs.now c.loop-key.key-index c.loop-key-item.result c.loop-key-test.true), tt)

pub encode_pairs-push_field-requires-in-loop-key : goal.encode_pairs-push_field-requires-in-loop-key
encode_pairs-push_field-requires-in-loop-key t c =
    (omega (arith, c.decreases, ap (λ (p : Value × Value). depth_of (shape_of p.1)) c.loop-key-item.is, pair_depth c.args.pairs.now c.loop-key.key-index c.loop-key-item.result c.loop-key-test.true), tt)

-- a map's shape is that of its pairs
pub encode_value-returns-in_ok-encode_pairs-in-Map : goal.encode_value-returns-in_ok-encode_pairs-in-Map
encode_value-returns-in_ok-encode_pairs-in-Map t c = search (rules, c.in-Map.is, c.in_ok-encode_pairs-in-Map.ensures, c.as_slice-in-Map.ensures.value, map_shape)
