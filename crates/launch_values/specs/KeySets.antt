-- Which values may be keys of a map.
use Rattle.std.specs.Prelude.{Bool, true, false, IsTrue}
use Rattle.launch_values.specs.declared.mode.Mode.{Mode}
use Rattle.launch_values.specs.declared.mode.Mode.TheVariants as modes
use Rattle.launch_values.specs.Shape.{Content, null, boolean, integer, text, binary}

-- no value, true or false, an integer, or a text
abbrev pub is_scalar_key : Content → Bool
is_scalar_key null = true
is_scalar_key (boolean b) = true
is_scalar_key (integer i) = true
is_scalar_key (text bytes) = true
is_scalar_key other = false

abbrev pub IsScalarKey : Content → Type 0
IsScalarKey value = IsTrue (is_scalar_key value)

abbrev pub is_bytes : Content → Bool
is_bytes (binary bytes) = true
is_bytes other = false

-- what a scalar may mean: bytes, where they are in base64, and otherwise what may be a key
abbrev pub IsScalarOf : Mode → Content → Type 0
IsScalarOf modes.Base64 value = IsTrue (is_bytes value)
IsScalarOf modes.Resolved value = IsScalarKey value
IsScalarOf modes.Verbatim value = IsScalarKey value
