-- What stands inside a list is smaller than the list.
use Rattle.std.specs.Prelude.{ℕ, suc, max, ◌≤◌, List, [], ◌∷◌, map}
use Rattle.std.proofs.Common.{arith}
use Rattle.std.specs.Global.{Vec}
use denote.Param.Weighed.{most}
use Rattle.launch_values.specs.declared.node.Node.{Node}
use Rattle.launch_values.specs.declared.node.NodeValue.{NodeValue}
use Rattle.launch_values.specs.declared.node_list.NodeList.TheDeep.{deep-Node, deep-NodeValue}
use Rattle.launch_values.specs.declared.node_list.NodeList.TheShapes.{weighed-NodePairs-pairs}
use Rattle.launch_values.specs.declared.node.NodeValue.TheVariants as values
use Rattle.launch_values.specs.Shape.{of_list, of_pairs, size_of, size_of_content, size_of_items, size_of_pairs}
use Rattle.launch_values.specs.Views.{shape_of, content_of_value, pair_of}

-- a value's own children are no deeper than its size
pub value_deep_below : (x : NodeValue) → deep-NodeValue x ≤ suc (size_of_content (content_of_value x))
value_deep_below values.Null = omega arith
value_deep_below (values.Bool b) = omega arith
value_deep_below (values.Int i) = omega arith
value_deep_below (values.Str bytes) = omega arith
value_deep_below (values.Binary bytes) = omega arith
value_deep_below (values.Map pairs) = omega arith
value_deep_below (values.Seq items) = omega arith

pub deep_below : (x : Node) → deep-Node x ≤ suc (size_of (shape_of x))
deep_below x = omega (arith, value_deep_below x.value)

pub all_smaller : (xs : List Node) → most deep-Node xs ≤ size_of_items (of_list (map shape_of xs))
all_smaller [] = omega arith
all_smaller (x ∷ xs) = omega (arith, deep_below x, value_deep_below x.value, all_smaller xs)

pub all_pairs_smaller : (weight : Node × Node → ℕ) → ((p : Node × Node) → weight p ≤ max (deep-Node p.0) (deep-Node p.1)) → (ps : List (Node × Node)) → most weight ps ≤ size_of_pairs (of_pairs (map pair_of ps))
all_pairs_smaller weight small [] = omega arith
all_pairs_smaller weight small (p ∷ ps) = omega (arith, small p, deep_below p.0, deep_below p.1, all_pairs_smaller weight small ps)

-- the same, in the words of the generated measure
pub pairs_smaller : (a : Vec (Node × Node)) → weighed-NodePairs-pairs.weight Node deep-Node a ≤ size_of_pairs (of_pairs (map pair_of a.items))
pairs_smaller a = all_pairs_smaller _ (λ p. omega arith) a.items
