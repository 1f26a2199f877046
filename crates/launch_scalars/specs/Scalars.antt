-- Scalars, without what they mean.
use Rattle.std.specs.Prelude.{ℕ, suc, ◌-◌, ◌==◌, ◌||◌, if◌then◌else◌, Bool, true, false, List, [], ◌∷◌, length, take, drop, Option, Some, None, Result, Ok}
use Rattle.launch_scalars.specs.declared.kind.YamlKind.TheVariants as kinds
use Rattle.launch_scalars.specs.declared.fault.LineFault.{LineFault}
use Rattle.lists.specs.Results.{◌>>=◌}
use Rattle.launch_scalars.specs.Results.{fault}
use Rattle.launch_scalars.specs.Characters.{bad_at}
use Rattle.launch_scalars.specs.Spaces.{without_last_spaces}
use Rattle.launch_scalars.specs.Plain.{begins_plain, plain_length, wrong_beginning}
use Rattle.launch_scalars.specs.Quoted.{quoted, reported, taken_of}

-- a scalar: whether it is plain, what it says, and what stands behind it
pub record Scalar : Type 0 where
  pub plain : Bool
  pub content : List ℕ
  pub rest : List ℕ

abbrev pub is_quote : ℕ → Bool
is_quote b = (b == 34) || (b == 39)

-- what is read, unless so many bytes stand before the first that may not be in a text
abbrev pub unless_at : {A : Type 0} → ℕ → Option ℕ → Result A LineFault → Result A LineFault
unless_at place None read = read
unless_at place (Some n) read = fault (place - n) kinds.Character

-- What is read of so many bytes at the front. A byte among them that may not be in a text is their only fault.
abbrev pub unless_bad : {A : Type 0} → ℕ → List ℕ → Result A LineFault → Result A LineFault
unless_bad count bytes read = unless_at (length bytes) (bad_at (take count bytes)) read

abbrev pub plain_scalar : ℕ → List ℕ → Scalar
plain_scalar count bytes = record { plain = true; content = without_last_spaces (take count bytes); rest = drop count bytes }

abbrev pub quoted_scalar : List ℕ × List ℕ → Scalar
quoted_scalar c = record { plain = false; content = c.0; rest = c.1 }

-- the quoted scalar behind whose opening quote these bytes stand, and the plain one of so many bytes
abbrev pub quoted_at : ℕ → List ℕ → Result Scalar LineFault
quoted_at quote bytes = unless_bad (suc (taken_of (length bytes) (quoted quote bytes).rest)) (quote ∷ bytes) (reported (quoted quote bytes) >>= λ c. Ok (quoted_scalar c))

abbrev pub plain_at : ℕ → List ℕ → Result Scalar LineFault
plain_at count bytes = unless_bad count bytes (Ok (plain_scalar count bytes))

-- the scalar at the front
unfoldable pub scalar_at : Bool → List ℕ → Result Scalar LineFault
scalar_at in_flow [] = fault 0 kinds.Character
scalar_at in_flow (b ∷ bs) =
    if is_quote b then quoted_at b bs
    else if begins_plain in_flow b bs then plain_at (plain_length in_flow (b ∷ bs)) (b ∷ bs)
    else fault (suc (length bs)) (wrong_beginning b)
