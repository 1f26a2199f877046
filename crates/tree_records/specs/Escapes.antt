-- How the bytes of a path are written in a tree document.
--     is_escaped b, escape b      whether a byte is written as an escape;  what is written for it
--     escaped bytes      what is written for bytes
use Rattle.std.specs.Prelude.{ℕ, ◌/◌, ◌%◌, ◌==◌, ◌||◌, nat_lt, Bool, true, if◌then◌else◌, List, [], ◌∷◌}
use Rattle.std.specs.Fmt.{digit_glyph}
use Rattle.std.specs.List.{flat_map}

-- whether a byte is written as an escape: one below 0x20, 0x7f, and `%` itself
abbrev pub is_escaped : ℕ → Bool
is_escaped b = nat_lt b 32 || (b == 127) || (b == 37)

-- what is written for a byte: an escape is `%` and two hexadecimal digits, of which letters are upper-case
abbrev pub escape : ℕ → List ℕ
escape b = if is_escaped b then 37 ∷ digit_glyph true (b / 16) ∷ digit_glyph true (b % 16) ∷ [] else b ∷ []

-- what is written for bytes
abbrev pub escaped : List ℕ → List ℕ
escaped bytes = flat_map escape bytes
