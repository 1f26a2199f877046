-- A node of the program as the node that contracts speak of.
use Rattle.launch_values.specs.declared.node.Node.{Node}
use Rattle.launch_values.specs.declared.node.NodeValue.{NodeValue}
use Rattle.launch_values.specs.declared.node.NodeValue.TheVariants as values
use Rattle.launch_values.specs.Shape.{Shape, Content, node, null, boolean, integer, text, binary, mapping, sequence, of_list, of_pairs}

abbrev pub content_of_value : NodeValue → Content
content_of_value values.Null = null
content_of_value (values.Bool b) = boolean b
content_of_value (values.Int i) = integer i
content_of_value (values.Str bytes) = text bytes
content_of_value (values.Binary bytes) = binary bytes
content_of_value (values.Map pairs) = mapping (of_pairs pairs)
content_of_value (values.Seq items) = sequence (of_list items)

abbrev pub shape_of : Node → Shape
shape_of n = node n.line n.tag (content_of_value n.value)

-- a pair of a map
abbrev pub pair_of : Node × Node → Shape × Shape
pair_of p = (shape_of p.0, shape_of p.1)
