-- Tests of arguments that several calls share.
use Rattle.std.specs.Prelude.{ℕ, Bool, not, ◌==◌}
use Rattle.std.specs.Int.RustNames.{bit_and}

-- the flags hold a bit that is none of the known ones
abbrev pub has_unknown : ℕ → ℕ → Bool
has_unknown flags known = not (bit_and flags known == flags)

-- the flags hold one of these bits
abbrev pub has_some : ℕ → ℕ → Bool
has_some flags bits = not (bit_and flags bits == 0)
