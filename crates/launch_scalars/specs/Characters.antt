-- The first place in a line that isn't a character, or is a control character.
use Rattle.std.specs.Prelude.{ℕ, suc, ◌==◌, ◌&&◌, ◌||◌, not, if◌then◌else◌, nat_lt, min, Bool, false, List, [], ◌∷◌, length, Option, Some, None, option_map}
use Rattle.std.specs.Str.Lossy.{utf8_valid_len}

-- what follows the byte 0xc2 in the UTF-8 of U+0080 to U+009F
abbrev pub is_upper_control : List ℕ → Bool
is_upper_control [] = false
is_upper_control (b ∷ bs) = not (nat_lt b 0x80) && nat_lt b 0xa0

-- a control character (Unicode's Cc) begins with this byte, where those follow
abbrev pub begins_control : ℕ → List ℕ → Bool
begins_control b bs = nat_lt b 0x20 || (b == 0x7f) || ((b == 0xc2) && is_upper_control bs)

-- how many bytes stand before the first control character
abbrev pub control_at : List ℕ → Option ℕ
control_at [] = None
control_at (b ∷ bs) = if begins_control b bs then Some 0 else option_map suc (control_at bs)

-- how many bytes stand before the first that is in no character
abbrev pub invalid_at : List ℕ → Option ℕ
invalid_at bytes = if utf8_valid_len bytes == length bytes then None else Some (utf8_valid_len bytes)

-- the earlier of two places
abbrev pub earlier : Option ℕ → Option ℕ → Option ℕ
earlier None place = place
earlier (Some m) None = Some m
earlier (Some m) (Some n) = Some (min m n)

-- how many bytes stand before the first that may not be in a text
unfoldable pub bad_at : List ℕ → Option ℕ
bad_at bytes = earlier (control_at bytes) (invalid_at bytes)
