-- The shape of a map, pair by pair.
use Rattle.std.proofs.Common.{◌≡◌, map, sym, ap, ◌∙◌}
use Rattle.std.specs.Global.{Vec}
use Rattle.argdata_codec.specs.declared.value.Value.{Value, fold-roll-Value}
use Rattle.argdata_codec.specs.declared.value.Value.TheVariants as values
use Rattle.argdata_codec.specs.declared.value.Value.TheVariants.{rolls-Map}
use Rattle.argdata_codec.specs.Shape.{Shape, mapping, of_pairs}
use Rattle.argdata_codec.specs.Views.{shape_of, shape_step, pair_of}

pub map_shape : (pairs : Vec (Value × Value)) → shape_of (values.Map pairs) ≡ mapping (of_pairs (map pair_of pairs.items))
map_shape pairs = ap shape_of (sym (rolls-Map pairs)) ∙ fold-roll-Value Shape shape_step _
