-- What a list of blocks has in it.
use Rattle.std.specs.Prelude.{ℕ, List}

-- the values in their order, and how many places are free
pub record Contents (T : Type 0) : Type 0 where
  pub items : List T
  pub room : ℕ
