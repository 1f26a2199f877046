-- An integer by its sign and how far it is from 0, or from -1 where it is negative.
use Rattle.std.specs.Prelude.{ℕ, ℤ, pos, negsuc, Bool, true, false}

abbrev pub integer_at : Bool → ℕ → ℤ
integer_at false n = pos n
integer_at true n = negsuc n
