-- What a scalar means.
use Rattle.std.specs.Prelude.{ℕ, ℤ, if◌then◌else◌, Bool, true, false, List, [], ◌∷◌, length, codes, Option, Some, None, Result, Ok, Err}
use Rattle.base64.specs.GeneralPurpose.{decode_of}
use Rattle.base64.specs.Engines.{standard}
use Rattle.launch_scalars.specs.declared.kind.YamlKind.{YamlKind}
use Rattle.launch_scalars.specs.declared.kind.YamlKind.TheVariants as kinds
use Rattle.launch_scalars.specs.declared.fault.LineFault.{LineFault}
use Rattle.launch_values.specs.declared.mode.Mode.{Mode}
use Rattle.launch_values.specs.declared.mode.Mode.TheVariants as modes
use Rattle.launch_values.specs.Shape.{Content, null, boolean, integer, text, binary}
use Rattle.lists.specs.Results.{◌>>=◌}
use Rattle.launch_scalars.specs.Results.{at_place}
use Rattle.launch_scalars.specs.Scalars.{Scalar, scalar_at}
use Rattle.launch_scalars.specs.Numbers.{is_in_range, is_word, integer_of, is_float}

abbrev pub ranged : ℤ → Result Content YamlKind
ranged i = if is_in_range i then Ok (integer i) else Err kinds.IntegerRange

-- what is neither null nor a bool: a number or a text
abbrev pub number_or_text : List ℕ → Option ℤ → Result Content YamlKind
number_or_text bytes (Some i) = ranged i
number_or_text bytes None = if is_float bytes then Err kinds.Float else Ok (text bytes)

-- a plain scalar without a tag
unfoldable pub resolved : List ℕ → Result Content YamlKind
resolved bytes =
    if is_word (codes "~" ∷ codes "null" ∷ codes "Null" ∷ codes "NULL" ∷ []) bytes then Ok null
    else if is_word (codes "true" ∷ codes "True" ∷ codes "TRUE" ∷ []) bytes then Ok (boolean true)
    else if is_word (codes "false" ∷ codes "False" ∷ codes "FALSE" ∷ []) bytes then Ok (boolean false)
    else number_or_text bytes (integer_of bytes)

abbrev pub decoded : {E : Type 0} → Result (List ℕ) E → Result Content YamlKind
decoded (Ok bytes) = Ok (binary bytes)
decoded (Err e) = Err kinds.Base64

-- a scalar as its tag says: without a tag, with a tag that has a name, and with `!!binary`
abbrev pub meaning : Mode → Scalar → Result Content YamlKind
meaning modes.Resolved s = if s.plain then resolved s.content else Ok (text s.content)
meaning modes.Verbatim s = Ok (text s.content)
meaning modes.Base64 s = decoded (decode_of standard s.content)

-- the value of the scalar at the front, and what stands behind it
unfoldable pub scalar_value : Mode → Bool → List ℕ → Result (Content × List ℕ) LineFault
scalar_value mode in_flow bytes =
    scalar_at in_flow bytes >>= λ s. at_place (length bytes) (meaning mode s) >>= λ value. Ok (value, s.rest)
