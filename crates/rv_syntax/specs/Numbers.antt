-- Numbers, as they are written.
use Rattle.std.specs.Prelude.{ℕ, ◌+◌, ◌-◌, ◌*◌, ◌^◌, ◌&&◌, nat_lt, nat_eq, cond, List, [], ◌∷◌, drop, Option, None, Some, option_map, ℤ, pos, neg_ℤ, int_le, codes}
use Rattle.std.specs.Int.{is_in_range}
use Rattle.std.specs.List.{starts_with}
use Rattle.rv_syntax.specs.Chain.{◌>>=◌}

-- the value of a digit: 0 to 9, a to f and A to F
abbrev pub digit_of : ℕ → Option ℕ
digit_of b =
    cond (is_in_range 48 57 b) (Some (b - 48))
    (cond (is_in_range 97 102 b) (Some (b - 87))
    (cond (is_in_range 65 70 b) (Some (b - 55))
    None))

-- the number that a digit of this value makes behind a number; nothing, where it is no digit in this base, or where the
-- number needs more than 64 bits
abbrev pub with_digit : ℕ → ℕ → ℕ → Option ℕ
with_digit base n digit = cond (nat_lt digit base && nat_lt (n * base + digit) (2 ^ 64)) (Some (n * base + digit)) None

-- the number that digits make behind a number
abbrev pub digits_behind : ℕ → ℕ → List ℕ → Option ℕ
digits_behind base n [] = Some n
digits_behind base n (b ∷ bs) = digit_of b >>= with_digit base n >>= λ m. digits_behind base m bs

-- the number of one or more digits, of at most 64 bits
abbrev pub digits_of : ℕ → List ℕ → Option ℕ
digits_of base [] = None
digits_of base (b ∷ bs) = digits_behind base 0 (b ∷ bs)

-- the number that a text stands for: hexadecimal digits behind `0x`, or decimal digits, perhaps behind `-`
unfoldable pub number_of : List ℕ → Option ℤ
number_of text =
    cond (starts_with nat_eq text (codes "0x")) (option_map pos (digits_of 16 (drop 2 text)))
    (cond (starts_with nat_eq text (codes "-")) (option_map (λ n. neg_ℤ (pos n)) (digits_of 10 (drop 1 text)))
    (option_map pos (digits_of 10 text)))

-- a number from the first bound to the second
abbrev pub within : ℤ → ℤ → ℤ → Option ℤ
within low high n = cond (int_le low n && int_le n high) (Some n) None

-- the number that a text stands for, if it is from the first bound to the second
unfoldable pub number_within : ℤ → ℤ → List ℕ → Option ℤ
number_within low high text = number_of text >>= within low high
