-- What a write adds to the bytes that a sink shows.
use Rattle.std.specs.Prelude.{ℕ, ◌≡◌, List, ◌++◌, take, Option, None, Some}

-- what was written, where it is known, with more bytes at its end
abbrev pub grown : Option (List ℕ) → List ℕ → Option (List ℕ)
grown None more = None
grown (Some bytes) more = Some (bytes ++ more)

-- what was written grew by the first bytes of a piece: by none, some or all of them
pub record GrewByPrefix (before after : Option (List ℕ)) (piece : List ℕ) : Type 0 where
  pub count : ℕ
  pub grew : after ≡ grown before (take count piece)
