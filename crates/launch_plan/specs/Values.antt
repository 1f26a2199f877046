-- The argument data of a document: the document, with a descriptor in the place of each node that has a tag.
use Rattle.std.specs.Prelude.{ℕ, ◌+◌, length, Some, None}
use Rattle.argdata_codec.specs.Shape as arguments
use Rattle.launch_values.specs.Shape.{Shape, Content, Shapes, Pairs, node, null, boolean, integer, text, binary, mapping, sequence, no_items, item, no_pairs, pair}
use Rattle.launch_plan.specs.Tagged.{tagged}

-- how many nodes with a tag are in a node
abbrev pub count : Shape → ℕ
count x = length (tagged x)

-- a node's value, where the descriptors in it are numbered from n on
abbrev mutual
  pub value_of : ℕ → Shape → arguments.Shape
  value_of n (node line (Some name) value) = arguments.descriptor n
  value_of n (node line None value) = content_value n value

  pub content_value : ℕ → Content → arguments.Shape
  content_value n null = arguments.null
  content_value n (boolean b) = arguments.boolean b
  content_value n (integer i) = arguments.integer i
  content_value n (text bytes) = arguments.text bytes
  content_value n (binary bytes) = arguments.binary bytes
  content_value n (mapping ps) = arguments.mapping (pair_values n ps)
  content_value n (sequence xs) = arguments.sequence (item_values n xs)

  pub item_values : ℕ → Shapes → arguments.Shapes
  item_values n no_items = arguments.no_items
  item_values n (item x xs) = arguments.item (value_of n x) (item_values (n + count x) xs)

  pub pair_values : ℕ → Pairs → arguments.Pairs
  pair_values n no_pairs = arguments.no_pairs
  pair_values n (pair k v ps) = arguments.pair (value_of n k) (value_of (n + count k) v) (pair_values (n + count k + count v) ps)
