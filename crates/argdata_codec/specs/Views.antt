-- A value of the program as the value that contracts speak of.
use Rattle.argdata_codec.specs.declared.value.Value.{Value, fold-Value}
use Rattle.argdata_codec.specs.declared.value.Value.TheOpen.{Value-F}
use Rattle.argdata_codec.specs.Shape.{Shape, null, binary, boolean, descriptor, integer, mapping, sequence, text, of_list, of_pairs}

-- one level, with each value inside already seen as its shape
abbrev pub shape_step : Value-F Shape → Shape
shape_step Value-F.Null = null
shape_step (Value-F.Binary bytes) = binary bytes
shape_step (Value-F.Bool b) = boolean b
shape_step (Value-F.Fd n) = descriptor n
shape_step (Value-F.Int i) = integer i
shape_step (Value-F.Map pairs) = mapping (of_pairs pairs.items)
shape_step (Value-F.Seq items) = sequence (of_list items.items)
shape_step (Value-F.Str bytes) = text bytes

abbrev pub shape_of : Value → Shape
shape_of = fold-Value Shape shape_step

-- a pair of a map
abbrev pub pair_of : Value × Value → Shape × Shape
pair_of p = (shape_of p.0, shape_of p.1)
