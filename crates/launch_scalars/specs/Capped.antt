-- Numbers as far as integers of a launch file go.
use Rattle.std.specs.Prelude.{ℕ, ◌^◌, min}

-- the number, or 2^64 where it isn't below that
abbrev pub capped : ℕ → ℕ
capped n = min n (2 ^ 64)
