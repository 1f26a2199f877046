-- What reading a line gives: a value, or the first fault. A place is how many bytes of the line are from it to the line's end.
use Rattle.std.specs.Prelude.{ℕ, Result, Ok, Err}
use Rattle.launch_scalars.specs.declared.kind.YamlKind.{YamlKind}
use Rattle.launch_scalars.specs.declared.fault.LineFault.{LineFault}

-- a fault of some kind at a place
abbrev pub fault : {A : Type 0} → ℕ → YamlKind → Result A LineFault
fault place kind = Err (record { left = place; kind = kind })

-- what was found out without a place, at a place
abbrev pub at_place : {A : Type 0} → ℕ → Result A YamlKind → Result A LineFault
at_place place (Ok x) = Ok x
at_place place (Err kind) = fault place kind
