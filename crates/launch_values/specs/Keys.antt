-- Keys of a map.
use Rattle.std.specs.Prelude.{ℕ, if◌then◌else◌, nat_eq, Bool, true, false, List, Result}
use Rattle.std.specs.List.{list_any}
use Rattle.std.specs.Ordering.{int_eq}
use Rattle.std.specs.Bool.{beq}
use lib.Pointwise.{pointwise}
use Rattle.launch_scalars.specs.declared.kind.YamlKind.TheVariants as kinds
use Rattle.launch_scalars.specs.declared.fault.LineFault.{LineFault}
use Rattle.launch_values.specs.Shape.{Content, null, boolean, integer, text}
use Rattle.launch_scalars.specs.Results.{fault}

-- two keys are equal: they mean the same
abbrev pub same_key : Content → Content → Bool
same_key null null = true
same_key (boolean a) (boolean b) = beq a b
same_key (integer i) (integer j) = int_eq i j
same_key (text a) (text b) = pointwise nat_eq a b
same_key a b = false

-- a key at the place, unless the map has it already
abbrev pub unless_there : {A : Type 0} → ℕ → Content → List Content → Result A LineFault → Result A LineFault
unless_there place key keys further = if list_any (same_key key) keys then fault place kinds.DuplicateKey else further
