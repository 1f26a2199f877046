-- What a decoder answers.
use Rattle.std.specs.Prelude.{ℕ, List, ◌≡◌, Result, Ok, Err}
use Rattle.lists.specs.declared.stop.Stop.{Stop}
use Rattle.lists.specs.declared.stop.Stop.TheVariants.{At, Memory}
use Rattle.argdata_codec.specs.declared.decoding.ArgFault.{ArgFault}
use Rattle.argdata_codec.specs.declared.value.Value.{Value}
use Rattle.argdata_codec.specs.Shape.{Shape}
use Rattle.argdata_codec.specs.Encoding.{IsLongest}
use Rattle.argdata_codec.specs.Views.{shape_of}

-- the answer is the value, unless memory ran out
abbrev pub Decodes : Shape → Result Value (Stop ArgFault) → Type 0
Decodes x (Ok value) = shape_of value ≡ x
Decodes x (Err (At fault)) = ⊥
Decodes x (Err Memory) = Unit {0}

-- the fault names the first byte behind the longest beginning that begins some encoding
abbrev pub Names : Stop ArgFault → List ℕ → Type 0
Names (At fault) bytes = IsLongest bytes fault.at
Names Memory bytes = Unit {0}
