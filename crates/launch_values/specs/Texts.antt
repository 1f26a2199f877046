-- The bytes of a text, wherever they lie.
use Rattle.std.specs.Prelude.{ℕ, List}
use Rattle.launch_values.specs.declared.node_text.Place.{Place}
use Rattle.launch_values.specs.declared.node_text.Place.TheVariants as places

abbrev pub bytes_at : Place → List ℕ
bytes_at (places.Inside short) = short.bytes
bytes_at (places.Apart text) = text.value
